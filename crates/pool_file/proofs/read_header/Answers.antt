-- five numbers, from the array that they are read into
use Rattle.std.proofs.Common.{ℕ}
use lib.ListN.{length-replicate}
use Rattle.pool_file.proofs.Whole.{header_none, header-good}
use Rattle.pool_file.proofs.read_header.Goals as goal

pub returns-in_err-next : goal.returns-in_err-next
returns-in_err-next c = rw c.from_residual.ensures (header_none _ c.args.at c.in_err-next.ensures)

pub returns : goal.returns
returns c = header-good _ c.args.at _ _ _ c.in_ok-next.ensures (length-replicate {A = ℕ} 5 0)
