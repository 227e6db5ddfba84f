-- seven numbers, from the array that they are read into
use Rattle.std.proofs.Common.{ℕ}
use lib.ListN.{length-replicate}
use Rattle.load_numbers.proofs.Seven.{seven_none, seven_runs_on, seven_good}
use Rattle.load_numbers.proofs.read_load.Goals as goal

pub returns-in_err-end : goal.returns-in_err-end
returns-in_err-end c = rw c.from_residual.ensures (seven_none c.args.input.now c.in_err-end.ensures)

pub returns-then-end-input : goal.returns-then-end-input
returns-then-end-input c = seven_runs_on _ _ _ _ c.in_ok-end.ensures c.if-end-input.true

pub returns : goal.returns
returns c = seven_good _ _ _ _ c.in_ok-end.ensures (length-replicate {A = ℕ} 7 0) c.if-end-input.false
