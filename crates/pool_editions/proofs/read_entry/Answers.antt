use Rattle.pool_editions.proofs.Entries.{first_entry}
use Rattle.pool_editions.proofs.read_entry.Goals as goal

pub returns-then-second : goal.returns-then-second
returns-then-second c = rw c.if-second.true c.read_numbered.ensures

pub returns-else-second : goal.returns-else-second
returns-else-second c =
    rw c.if-second.false (first_entry c.args.file.now c.args.at c.args.m c.args.base c.args.pool.now _ _ c.read_plan.ensures)
