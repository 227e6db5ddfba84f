-- the second test counts where the first one passes
use Rattle.std.proofs.Common.{refl, sym}
use lib.Ieee.{of_bits}
use Rattle.list_laws.proofs.Bools.{past}
use Rattle.block_search.proofs.is_close.Goals as goal

pub returns-then-squares-best : goal.returns-then-squares-best
unfolding of_bits
returns-then-squares-best c = sym (past c.if-squares-best.true refl)
