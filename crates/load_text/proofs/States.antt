-- The state after so many draws: each takes one word.
use Prim.Native.Nat.{ℕ, zero, suc, ◌+◌, ◌*◌}
use mathlib.Core.Path.{◌≡◌, refl, ap, sym, ◌∙◌}
use mathlib.Core.Bool.{Bool, true, false}
use native.Mathlib.Nat.{zero-mul, suc-mul}
use Rattle.model.specs.Draw.{step, draw_word, draw_f64, in_turn}
use Rattle.model.specs.Load.{ahead, draw_constraint, draw_plan}
use Rattle.jump_laws.proofs.Ahead.{ahead_none, ahead-next, ahead-sum}
use Rattle.load_draws.specs.Drawing.{draw_one, draw_some, draw_many}

one_word : (lowered : Bool) (s : ℕ) → (draw_one lowered s).state ≡ step s
unfolding draw_f64 draw_word draw_constraint
one_word false s = refl
one_word true s = refl

some_words : (lowered : Bool) (n s : ℕ) → (draw_some lowered n s).state ≡ ahead n s
unfolding in_turn
some_words lowered zero s = sym (ahead_none s)
some_words lowered (suc n) s = one_word lowered (draw_some lowered n s).state ∙ ap step (some_words lowered n s) ∙ sym (ahead-next n s)

plan-words : (m c s : ℕ) → (draw_plan m c s).state ≡ ahead (m + c) s
unfolding draw_plan
plan-words m c s = some_words true c (draw_some false m s).state ∙ ap (ahead c) (some_words false m s) ∙ ahead-sum m c s

pub all_words : (m c n s : ℕ) → (draw_many m c n s).state ≡ ahead (n * (m + c)) s
unfolding in_turn
all_words m c zero s = sym (ap (λ k. ahead k s) (zero-mul (m + c)) ∙ ahead_none s)
all_words m c (suc n) s =
    plan-words m c (draw_many m c n s).state ∙ ap (ahead (m + c)) (all_words m c n s) ∙ ahead-sum (n * (m + c)) (m + c) s ∙ ap (λ k. ahead k s) (sym (suc-mul n (m + c)))
