use Rattle.std.proofs.Common.{sym}
use lib.Ieee.{neg, of_bits}
use Rattle.float_laws.proofs.Sums.{sum_none, sum_more}
use Rattle.distances.proofs.dot_product.Goals as goal

pub loop-j-init : goal.loop-j-init
unfolding of_bits neg
loop-j-init c = sym (sum_none _)

pub loop-j-preserved : goal.loop-j-preserved
loop-j-preserved c = sum_more _ _ _ c.loop-j.invariant
