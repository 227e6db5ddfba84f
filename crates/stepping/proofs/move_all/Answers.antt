use Rattle.std.proofs.Common.{◌≡◌, ◌%◌, ℕ, List, get_or, sym, ap, ◌∙◌, arith}
use Rattle.model.specs.Lists.{list_below}
use Rattle.model.specs.Setting.{dimensions_of}
use Rattle.list_laws.proofs.Built.{list_below-length, over_none, over-set}
use Rattle.stepping.specs.Moved.{moved_word}
use Rattle.stepping.proofs.Standing.{next-stands}
use Rattle.stepping.proofs.move_all.Goals as goal

pub loop-j-init : goal.loop-j-init
loop-j-init c = sym (over_none _ _)

pub loop-j-preserved : goal.loop-j-preserved
loop-j-preserved c =
    let l = c.loop-j in
    let a = c.args in
    let d = dimensions_of a.dims (l.j % a.n) in
    let f = λ (k : ℕ). moved_word (dimensions_of a.dims (k % a.n)) (get_or a.words.now k 0) in
    let same : get_or l.words l.j 0 ≡ get_or a.words.now l.j 0 =
    ap (λ (w : List ℕ). get_or w l.j 0) l.invariant ∙ next-stands (list_below f l.j) a.words.now l.j (list_below-length f l.j) in
    over-set f _ _ l.j _ (omega arith) l.invariant (c.move_word.ensures ∙ ap (moved_word d) same)
