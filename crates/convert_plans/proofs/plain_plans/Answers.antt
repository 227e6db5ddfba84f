use Rattle.convert_plans.proofs.Turns.{plain_none, plain_stop, plain_next}
use Rattle.convert_plans.proofs.plain_plans.Goals as goal

pub loop-i-init : goal.loop-i-init
loop-i-init c = plain_none _ _ _ _ _

pub returns-in_err-plan : goal.returns-in_err-plan
returns-in_err-plan c =
    let l = c.loop-i in
    rw c.from_residual.ensures (plain_stop _ _ _ _ _ l.i l.p l.out l.to l.held l.invariant _ c.loop-i-test.true c.in_err-plan.ensures)

pub loop-i-preserved : goal.loop-i-preserved
loop-i-preserved c =
    let l = c.loop-i in
    plain_next _ _ _ _ _ l.i l.p l.out l.to l.held l.invariant _ _ _ c.in_ok-plan.ensures
