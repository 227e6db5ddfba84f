use Rattle.std.proofs.Common.{refl, sym, arith}
use lib.Ieee.{of_bits}
use Rattle.list_laws.proofs.Built.{over_none, over-set}
use Rattle.back_substitution.proofs.invert.Goals as goal

pub loop-j-init : goal.loop-j-init
loop-j-init c = sym (over_none _ _)

pub loop-j-preserved : goal.loop-j-preserved
unfolding of_bits
loop-j-preserved c = over-set _ _ _ _ _ (omega arith) c.loop-j.invariant refl
