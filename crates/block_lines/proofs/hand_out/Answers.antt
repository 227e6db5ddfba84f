use Rattle.std.proofs.Common.{refl}
use Rattle.list_laws.proofs.Runs.{run_none, run_more}
use Rattle.block_lines.proofs.hand_out.Goals as goal

pub loop-b-init : goal.loop-b-init
loop-b-init c = record { line = run_none _ _ _; distance = run_none _ _ _ }

pub loop-b-preserved : goal.loop-b-preserved
loop-b-preserved c =
    let h = c.loop-b.invariant in
    record { line = run_more _ _ _ _ _ _ h.line refl; distance = run_more _ _ _ _ _ _ h.distance c.measure.ensures }
