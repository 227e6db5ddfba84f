use Rattle.std.proofs.Common.{sym, ◌∙◌, arith}
use Rattle.list_laws.proofs.Tests.{all_below_no}
use Rattle.model.specs.Refusal.{bad_steps}
use Rattle.operator_checks.proofs.bad_steps.Goals as goal

pub returns-then-not-valid_step : goal.returns-then-not-valid_step
unfolding bad_steps
returns-then-not-valid_step c = rw (all_below_no _ c.args.n c.loop-i.i (omega arith) (sym c.valid_step.ensures ∙ c.if-not-valid_step.true))
