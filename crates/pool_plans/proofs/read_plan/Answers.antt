-- the values, the constraint count and the constraints, each where its reader leaves off
use Rattle.pool_number.proofs.Numbers.{told}
use Rattle.pool_plans.proofs.Blocks.{block_none, block_no_count, block-short, block-good}
use Rattle.pool_plans.proofs.read_plan.Goals as goal

pub returns-in_err-p : goal.returns-in_err-p
returns-in_err-p c = rw c.from_residual.ensures (block_none c.args.file.now c.args.at c.args.m c.args.base c.args.pool.now c.in_err-p.ensures)

pub returns-in_err-count : goal.returns-in_err-count
returns-in_err-count c =
    rw c.from_residual-in_err-count.ensures
    (block_no_count _ _ c.args.m c.args.base c.args.pool.now _ _ c.in_ok-p.ensures (told _ c.in_ok-p.p _ c.in_err-count.ensures))

pub returns-in_err-next : goal.returns-in_err-next
returns-in_err-next c =
    rw c.from_residual-in_err-next.ensures
    (block-short _ _ c.args.m c.args.base c.args.pool.now _ _ c.in_ok-p.ensures _ _ (told _ c.in_ok-p.p _ c.in_ok-count.ensures) c.in_err-next.ensures)

pub returns : goal.returns
returns c =
    rw c.put_counts.ensures
    (block-good _ _ c.args.m c.args.base c.args.pool.now _ _ c.in_ok-p.ensures _ _ (told _ c.in_ok-p.p _ c.in_ok-count.ensures) _ _ c.in_ok-next.ensures c.requires)
