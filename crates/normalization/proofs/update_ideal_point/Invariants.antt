-- the objectives before j have their ideal
use Rattle.std.proofs.Common.{◌≡◌}
use Rattle.model.specs.Lists.{list_below, over}
use Rattle.association_laws.specs.Flat.{least_at}
use Rattle.normalization.proofs.update_ideal_point.Given as goal

abbrev pub invariant-loop-j : goal.invariant-loop-j
invariant-loop-j l = l.ideal ≡ over (list_below (least_at l.rows l.n l.m l.fn.ideal) l.j) l.fn.ideal
