-- the plans before plan p are good
use Rattle.std.proofs.Common.{◌≡◌, true}
use Rattle.model.specs.Plan.{plan_at}
use Rattle.model.specs.Refusal.{good_plans}
use Rattle.plans.proofs.good_plans.Given as goal

abbrev pub invariant-loop-p : goal.invariant-loop-p
invariant-loop-p l = good_plans l.m (plan_at l.pool) l.p ≡ true
