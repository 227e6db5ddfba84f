use Rattle.std.proofs.Common.{sym, arith}
use Rattle.list_laws.proofs.Built.{over_none, over-set}
use Rattle.distances.proofs.line_norms.Goals as goal

pub loop-l-init : goal.loop-l-init
loop-l-init c = sym (over_none _ _)

pub loop-l-preserved : goal.loop-l-preserved
loop-l-preserved c = over-set _ _ _ _ _ (omega arith) c.loop-l.invariant c.dot_product.ensures
