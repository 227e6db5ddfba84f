use Rattle.std.proofs.Common.{ℕ, Float, ◌+◌, sym, get_or, arith}
use Rattle.model.specs.Real.{real}
use Rattle.list_laws.proofs.Built.{over_none, over-set}
use Rattle.plan_rows.proofs.copy_reals.Goals as goal

pub loop-j-init : goal.loop-j-init
loop-j-init c = sym (over_none _ _)

pub loop-j-preserved : goal.loop-j-preserved
loop-j-preserved c =
    let l = c.loop-j in
    let f : ℕ → Float = λ i. real (get_or c.args.words.now (c.args.at + i) 0) in
    over-set f _ _ l.j _ (omega arith) l.invariant c.real_of_word.ensures
