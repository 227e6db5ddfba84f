use Rattle.std.proofs.Common.{arith, length}
use Rattle.list_laws.proofs.Rows.{row_inside, row_within, rows_none, rows_more}
use Rattle.shaper_rows.proofs.gather_rows.Goals as goal

pub loop-i-init : goal.loop-i-init
loop-i-init c = rows_none _ _ _

pub gather_row-requires : goal.gather_row-requires
gather_row-requires c =
    let h = row_inside c.loop-i.i c.args.k c.args.m c.loop-i-test.true in
    (c.requires.2 c.loop-i.i c.loop-i-test.true, omega arith)

pub loop-i-preserved : goal.loop-i-preserved
loop-i-preserved c =
    let a = c.args in
    let l = c.loop-i in
    let h = row_within l.i a.k a.m (length a.out.now) c.loop-i-test.true c.requires.1 in
    rows_more _ _ _ _ _ _ h l.invariant c.gather_row.ensures
