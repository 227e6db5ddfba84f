use Rattle.std.proofs.Common.{ℕ, Float, sym, ap, ◌∙◌}
use Rattle.std.specs.Float.Ieee.{lt, div, of_bits}
use Rattle.model.specs.Real.{infinity}
use Rattle.model.specs.Window.{part_at}
use Rattle.list_laws.proofs.Best.{best_none, best_more}
use Rattle.session_window.proofs.least_remembered.Goals as goal
use Rattle.session_window.proofs.least_remembered.Goals.{then-v-least, else-v-least}

pub loop-g-init : goal.loop-g-init
unfolding div of_bits
loop-g-init c = let a = c.args in sym (best_none lt infinity (λ g. part_at a.words.now a.at a.m g a.j))

pub loop-g-preserved : goal.loop-g-preserved
loop-g-preserved c =
    let a = c.args in
    let l = c.loop-g in
    let f : ℕ → Float = λ g. part_at a.words.now a.at a.m g a.j in
    let e = c.part_at-v.ensures in
    elim c.if-v-least.branch [
      | then-v-least w ↦ w.least-is ∙ e ∙ best_more lt infinity f l.g l.invariant (ap (λ x. lt x l.least) (sym e) ∙ w.if-v-least.true)
      | else-v-least w ↦ w.least-is ∙ best_more lt infinity f l.g l.invariant (ap (λ x. lt x l.least) (sym e) ∙ w.if-v-least.false)
    ]
