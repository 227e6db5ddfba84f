use Rattle.model.specs.PoolFile.{setting}
use Rattle.pool_plans.proofs.Storing.{reads_none, reads_more, reads_stop}
use Rattle.pool_settings.proofs.read_settings.Goals as goal

pub loop-init : goal.loop-init
loop-init c = reads_none setting _ _ _ tt

pub returns-in_err-p : goal.returns-in_err-p
returns-in_err-p c =
    let l = c.loop in
    rw c.from_residual.ensures (reads_stop setting _ _ _ l.counter l.p l.invariant _ c.loop-test.true c.in_err-p.ensures)

pub loop-preserved : goal.loop-preserved
loop-preserved c =
    let l = c.loop in
    let k = c.in_ok-p.ensures in
    reads_more setting _ _ _ l.counter l.p l.invariant k.value _ k.reads _ tt
