-- every dimension before place i is as refusal 6 asks
use Rattle.std.proofs.Common.{◌≡◌, true}
use Rattle.model.specs.Lists.{all_below}
use Rattle.model.specs.Setting.{valid_bounds, dimensions_of}
use Rattle.operator_checks.proofs.bad_bounds.Given as goal

abbrev pub invariant-loop-i : goal.invariant-loop-i
invariant-loop-i l = all_below (λ d. valid_bounds (dimensions_of l.dims d)) l.i ≡ true
