-- the columns before j stand
use Rattle.std.proofs.Common.{◌≡◌}
use Rattle.model.specs.Lists.{over}
use Rattle.list_laws.specs.Rows.{flat_rows}
use Rattle.columns.specs.Block.{laid}
use Rattle.columns.proofs.lay.Given as goal

abbrev pub invariant-loop-j : goal.invariant-loop-j
invariant-loop-j l = l.x ≡ over (flat_rows (laid l.points l.m l.start) l.j l.len) l.initial.x
