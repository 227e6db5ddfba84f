use Rattle.pool_number.proofs.Numbers.{told}
use Rattle.convert_rows.proofs.copy_number.Goals as goal

pub returns-in_err-read : goal.returns-in_err-read
returns-in_err-read c = rw c.from_residual.ensures (told c.args.file.now c.args.at _ c.in_err-read.ensures)

pub returns : goal.returns
returns c = (told c.args.file.now c.args.at _ c.in_ok-read.ensures, c.put_word.ensures)
