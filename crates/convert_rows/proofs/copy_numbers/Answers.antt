use Rattle.convert_rows.proofs.Copies.{numbers_none, numbers_more, numbers_stop}
use Rattle.convert_rows.proofs.copy_numbers.Goals as goal

pub loop-init : goal.loop-init
loop-init c = numbers_none _ _ _ _

pub returns-in_err-read : goal.returns-in_err-read
returns-in_err-read c =
    let l = c.loop in
    rw c.from_residual.ensures (numbers_stop _ _ _ _ l.counter l.p l.out l.to l.invariant _ c.loop-test.true c.in_err-read.ensures)

pub loop-preserved : goal.loop-preserved
loop-preserved c =
    let l = c.loop in
    numbers_more _ _ _ _ l.counter l.p l.out l.to l.invariant _ _ _ c.in_ok-read.ensures
