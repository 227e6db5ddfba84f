-- the plans before plan p can be bred from
use Rattle.std.proofs.Common.{◌≡◌, true}
use Rattle.model.specs.Lists.{all_below}
use Rattle.model.specs.Plan.{plan_at}
use Rattle.model.specs.Setting.{dimensions_of}
use Rattle.model.specs.Refusal.{breedable}
use Rattle.parent_checks.proofs.bad_parents.Given as goal

abbrev pub invariant-loop-p : goal.invariant-loop-p
invariant-loop-p l = all_below (λ q. breedable (dimensions_of l.dims) l.n (plan_at l.pool q)) l.p ≡ true
