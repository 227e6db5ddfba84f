use Rattle.std.proofs.Common.{arith}
use Rattle.list_laws.proofs.Written.{written_none, written-more}
use Rattle.selection_lists.proofs.pad.Goals as goal

pub loop-at-init : goal.loop-at-init
loop-at-init c = written_none _ _ _

pub loop-at-preserved : goal.loop-at-preserved
loop-at-preserved c = written-more _ _ _ _ _ _ c.loop-at.invariant (omega arith) _ _ c.draw_usize-d.ensures
