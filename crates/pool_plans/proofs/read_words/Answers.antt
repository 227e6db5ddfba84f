use Rattle.std.proofs.Common.{refl}
use Rattle.model.specs.PoolFile.{number}
use Rattle.pool_number.proofs.Numbers.{told}
use Rattle.pool_plans.proofs.Storing.{words_none, words-kept, words-past, reads_stop}
use Rattle.pool_plans.proofs.read_words.Goals as goal
use Rattle.pool_plans.proofs.read_words.Goals.{then-i-keep, else-i-keep}

pub loop-i-init : goal.loop-i-init
loop-i-init c = words_none (λ v. v) _ _ c.args.keep c.args.base _

pub returns-in_err-word : goal.returns-in_err-word
returns-in_err-word c =
    let l = c.loop-i in
    rw c.from_residual.ensures (reads_stop number _ _ _ l.i l.p l.invariant _ c.loop-i-test.true (told _ l.p _ c.in_err-word.ensures))

pub loop-i-preserved : goal.loop-i-preserved
loop-i-preserved c =
    let l = c.loop-i in
    let e = told _ l.p _ c.in_ok-word.ensures in
    elim c.if-i-keep.branch [
      | then-i-keep w ↦ rw w.pool-is (words-kept _ _ _ _ _ _ l.i l.p _ _ l.pool e l.invariant w.if-i-keep.true _ refl)
      | else-i-keep w ↦ rw w.pool-is (words-past _ _ _ _ _ _ l.i l.p _ _ l.pool e l.invariant w.if-i-keep.false)
    ]
