use Rattle.std.proofs.Common.{length}
use Rattle.list_laws.proofs.Rows.{row_within, rows_none, rows_more}
use Rattle.plan_rows.proofs.fill_rows.Goals as goal

pub loop-p-init : goal.loop-p-init
loop-p-init c = rows_none _ _ _

pub loop-p-preserved : goal.loop-p-preserved
loop-p-preserved c =
    let a = c.args in
    let room = row_within c.loop-p.p a.n (length a.directions.now) (length a.rows.now) c.loop-p-test.true c.requires.n_bound.2 in
    rows_more _ _ _ _ _ a.rows.now room c.loop-p.invariant c.fill_row.ensures
