-- the objectives before j have their intercept
use Rattle.std.proofs.Common.{◌≡◌}
use Rattle.model.specs.Lists.{list_below, over}
use Rattle.association_laws.specs.Flat.{intercept_at}
use Rattle.normalization.proofs.find_intercepts.Given as goal

abbrev pub invariant-loop-j : goal.invariant-loop-j
invariant-loop-j l = l.intercepts ≡ over (list_below (intercept_at l.rows l.n l.m l.ideal) l.j) l.fn.intercepts
