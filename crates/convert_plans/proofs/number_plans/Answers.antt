use Rattle.convert_plans.proofs.Turns.{numbered_none, numbered_stop, numbered_next}
use Rattle.convert_plans.proofs.number_plans.Goals as goal

pub loop-i-init : goal.loop-i-init
loop-i-init c = numbered_none _ _ _ _ _

pub returns-in_err-p : goal.returns-in_err-p
returns-in_err-p c =
    let l = c.loop-i in
    rw c.from_residual.ensures (numbered_stop _ _ _ _ _ l.i l.p l.out l.to l.invariant _ c.loop-i-test.true c.in_err-p.ensures)

pub loop-i-preserved : goal.loop-i-preserved
loop-i-preserved c =
    let l = c.loop-i in
    numbered_next _ _ _ _ _ l.i l.p l.out l.to l.invariant _ _ _ c.in_ok-p.ensures
