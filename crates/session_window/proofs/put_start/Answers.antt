use Rattle.std.proofs.Common.{sym, arith}
use Rattle.list_laws.proofs.Built.{over_none, over-set}
use Rattle.session_window.proofs.put_start.Goals as goal

pub loop-j-init : goal.loop-j-init
loop-j-init c = sym (over_none _ _)

pub loop-j-preserved : goal.loop-j-preserved
loop-j-preserved c = over-set _ _ _ _ _ (omega arith) c.loop-j.invariant c.least_remembered.ensures
