-- the intercepts before j are worked out
use Rattle.std.proofs.Common.{◌≡◌}
use Rattle.model.specs.Lists.{list_below, over}
use Rattle.model.specs.Hyperplane.{intercept_in}
use Rattle.back_substitution.proofs.invert.Given as goal

abbrev pub invariant-loop-j : goal.invariant-loop-j
invariant-loop-j l = l.out ≡ over (list_below (intercept_in l.x) l.j) l.fn.out
