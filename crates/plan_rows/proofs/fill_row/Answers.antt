use Rattle.list_laws.proofs.Runs.{run_none, run_more}
use Rattle.plan_rows.proofs.fill_row.Goals as goal

pub loop-j-init : goal.loop-j-init
loop-j-init c = run_none _ _ _

pub loop-j-preserved : goal.loop-j-preserved
loop-j-preserved c = run_more _ _ _ _ _ _ c.loop-j.invariant c.row_value.ensures
