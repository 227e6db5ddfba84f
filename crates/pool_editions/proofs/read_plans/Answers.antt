use Rattle.pool_editions.proofs.Planned.{plans_none, plans-more, plans_stop}
use Rattle.pool_editions.proofs.read_plans.Goals as goal

pub loop-i-init : goal.loop-i-init
loop-i-init c = plans_none c.args.second _ _ c.args.m c.args.pool.now

pub returns-in_err-p : goal.returns-in_err-p
returns-in_err-p c =
    let l = c.loop-i in
    rw c.from_residual.ensures (plans_stop c.args.second _ _ c.args.m l.pool l.i l.p l.invariant _ c.loop-i-test.true c.in_err-p.ensures)

pub loop-i-preserved : goal.loop-i-preserved
loop-i-preserved c =
    let l = c.loop-i in
    plans-more c.args.second _ _ c.args.m l.pool l.i l.p l.invariant _ _ _ c.block_of.ensures.1 c.in_ok-p.ensures
