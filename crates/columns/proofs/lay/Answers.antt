use Rattle.std.proofs.Common.{length, arith}
use Rattle.list_laws.proofs.Rows.{row_within, rows_none, rows_more}
use Rattle.columns.proofs.lay.Goals as goal

pub loop-j-init : goal.loop-j-init
loop-j-init c = rows_none _ _ _

pub loop-j-preserved : goal.loop-j-preserved
loop-j-preserved c =
    let l = c.loop-j in
    let a = c.args in
    let h = row_within l.j a.m a.len (length a.x.now) c.loop-j-test.true (omega arith) in
    rows_more _ _ _ _ _ _ h l.invariant c.lay_column.ensures
