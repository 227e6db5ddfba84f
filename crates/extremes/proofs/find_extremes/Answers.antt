use Rattle.std.proofs.Common.{sym, arith}
use Rattle.list_laws.proofs.Built.{over_none, over-set}
use Rattle.extremes.proofs.find_extremes.Goals as goal

pub loop-i-init : goal.loop-i-init
loop-i-init c = sym (over_none _ _)

pub loop-i-preserved : goal.loop-i-preserved
loop-i-preserved c = over-set _ _ _ _ _ (omega arith) c.loop-i.invariant c.extreme_of.ensures
