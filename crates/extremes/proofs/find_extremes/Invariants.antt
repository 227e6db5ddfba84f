-- the extremes before i are found
use Rattle.std.proofs.Common.{◌≡◌}
use Rattle.model.specs.Lists.{list_below, over}
use Rattle.hyperplane_laws.specs.Flat.{extreme_at}
use Rattle.extremes.proofs.find_extremes.Given as goal

abbrev pub invariant-loop-i : goal.invariant-loop-i
invariant-loop-i l = l.extremes ≡ over (list_below (extreme_at l.rows l.n l.m l.ideal) l.i) l.fn.extremes
