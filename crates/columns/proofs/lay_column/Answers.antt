use Rattle.std.proofs.Common.{refl}
use Rattle.list_laws.proofs.Runs.{run_none, run_more}
use Rattle.columns.proofs.lay_column.Goals as goal

pub loop-b-init : goal.loop-b-init
loop-b-init c = run_none _ _ _

pub loop-b-preserved : goal.loop-b-preserved
loop-b-preserved c = run_more _ _ _ _ _ _ c.loop-b.invariant refl
