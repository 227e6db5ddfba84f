use Rattle.std.proofs.Common.{sym, ◌∙◌, arith}
use Rattle.list_laws.proofs.Tests.{all_below_no}
use Rattle.plans.proofs.good_plans.Goals as goal

pub returns-then-not-good_plan : goal.returns-then-not-good_plan
returns-then-not-good_plan c = sym (all_below_no _ _ c.loop-p.p (omega arith) (sym c.good_plan.ensures ∙ c.if-not-good_plan.true))
