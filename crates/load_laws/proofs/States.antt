-- The generator's state stays a word, and so does what is drawn in turn.
use Prim.Native.Nat.{ℕ, zero, suc}
use Rattle.model.specs.Draw.{Drawn, draw_word, draw_f64, in_turn}
use Rattle.model.specs.Load.{Load, ahead, draw_constraint, draw_plan, draw_plans}
use Rattle.rng_lent.proofs.Words.{step-below}
use Rattle.form_laws.specs.Writable.{Word}

module _ {A B : Type 0} (join : B → A → B) (none : B) (next : ℕ → B → ℕ → Drawn A) where
  turns_word : (n s : ℕ) → Word s → ((i : ℕ) (b : B) (t : ℕ) → Word t → Word (next i b t).state) → Word (in_turn join none next n s).state
  unfolding in_turn
  turns_word zero s w keeps = w
  turns_word (suc n) s w keeps = keeps n _ _ (turns_word n s w keeps)

pub ahead-word : (k s : ℕ) → Word s → Word (ahead k s)
unfolding ahead
ahead-word zero s w = w
ahead-word (suc k) s w = step-below (ahead k s)

draw_word_lem : (s : ℕ) → Word (draw_f64 s).state
unfolding draw_f64 draw_word
draw_word_lem s = step-below s

constraint_word : (s : ℕ) → Word (draw_constraint s).state
unfolding draw_constraint
constraint_word s = draw_word_lem s

plan-word : (m c s : ℕ) → Word s → Word (draw_plan m c s).state
unfolding draw_plan
plan-word m c s w =
    turns_word _ _ (λ j values. draw_constraint) c _ (turns_word _ _ (λ j values. draw_f64) m s w (λ i b t u. draw_word_lem t)) (λ i b t u. constraint_word t)

pub plans-word : (l : Load) → Word l.seed → Word (draw_plans l).state
unfolding draw_plans
plans-word l w =
    turns_word _ _ (λ p plans. draw_plan l.objectives l.constraints) l.count _ (ahead-word l.skip l.seed w)
    (λ i b t u. plan-word l.objectives l.constraints t u)
