use Rattle.std.proofs.Common.{arith}
use Rattle.model.specs.PoolFile.{number}
use Rattle.pool_number.proofs.Numbers.{told}
use Rattle.pool_file.specs.Parsing.{capped}
use Rattle.pool_plans.proofs.Storing.{words_none, words-kept, words-past, reads_stop}
use Rattle.pool_file.proofs.read_marks.Goals as goal
use Rattle.pool_file.proofs.read_marks.Goals.{then-i-lt-MAX_OBJECTIVES, else-i-lt-MAX_OBJECTIVES}

pub loop-i-init : goal.loop-i-init
loop-i-init c = words_none capped _ _ 8 0 _

pub returns-in_err-mark : goal.returns-in_err-mark
returns-in_err-mark c =
    let l = c.loop-i in
    rw c.from_residual.ensures (reads_stop number _ _ _ l.i l.p l.invariant _ c.loop-i-test.true (told _ l.p _ c.in_err-mark.ensures))

pub loop-i-preserved : goal.loop-i-preserved
loop-i-preserved c =
    let l = c.loop-i in
    let e = told _ l.p _ c.in_ok-mark.ensures in
    elim c.if-i-lt-MAX_OBJECTIVES.branch [
      | then-i-lt-MAX_OBJECTIVES w ↦ rw (w.directions-is, w.capped.ensures) (words-kept _ _ _ _ _ _ l.i l.p _ _ l.directions e l.invariant w.if-i-lt-MAX_OBJECTIVES.true _ (omega arith))
      | else-i-lt-MAX_OBJECTIVES w ↦ rw w.directions-is (words-past _ _ _ _ _ _ l.i l.p _ _ l.directions e l.invariant w.if-i-lt-MAX_OBJECTIVES.false)
    ]
