-- What is drawn, written as words from the front of a slice.
use Prim.Native.Nat.{ℕ, ◌+◌, ◌≤◌, ◌<◌}
use mathlib.Core.Path.{◌≡◌, refl, ap, sym, subst, ◌∙◌}
use mathlib.Core.List.{List, [], ◌∷◌, ◌++◌}
use native.Mathlib.Omega.{arith}
use lib.ListN.{length, set, length-append}
use lib.Seq.{sets}
use Rattle.model.specs.Lists.{over}
use Rattle.model.specs.Draw.{Drawn, drawn, in_turn, draw_all}
use Rattle.list_laws.proofs.Built.{over-length, over_run}
use Rattle.list_laws.proofs.Draws.{draw_all-more}

-- the k words of what d hands out stand in the slice `out`, and the generator is where d leaves it
pub record Written {B : Type 0} (words : B → List ℕ) (old : List ℕ) (k : ℕ) (d : Drawn B) (out : List ℕ) (t : ℕ) : Type 0 where
  pub same : length out ≡ length old
  pub count : length (words d.value) ≡ k
  pub written : out ≡ over (words d.value) old
  pub state : t ≡ d.state

-- w words more behind them
pub written_on : {B : Type 0} (words : B → List ℕ) (old : List ℕ) (k : ℕ) (d : Drawn B) (out : List ℕ) (t : ℕ) → Written words old k d out t
    → (new : List ℕ) (w : ℕ) (e : Drawn B) (out' : List ℕ) → words e.value ≡ words d.value ++ new → length new ≡ w → k + w ≤ length old
    → out' ≡ sets out k new → Written words old (k + w) e out' e.state
written_on words old k d out t h new w e out' more z room put =
    let size : length (words e.value) ≡ k + w = ap length more ∙ length-append (words d.value) new ∙ omega (arith, h.count) in
    let all : out' ≡ over (words e.value) old = put ∙ ap (λ o. sets o k new) h.written ∙ over_run (words d.value) new old k h.count (omega arith)
    ∙ ap (λ x. over x old) (sym more) in
    record { same = ap length all ∙ over-length (words e.value) old (omega (arith, size)); count = size; written = all; state = refl }

-- ---- numbers drawn one after the other, each of them a word

abbrev pub WrittenNumbers : (ℕ → List ℕ → ℕ → Drawn ℕ) → ℕ → List ℕ → ℕ → List ℕ → ℕ → Type 0
WrittenNumbers next s old j out t = Written (λ l. l) old j (draw_all next j s) out t

pub written_none : (next : ℕ → List ℕ → ℕ → Drawn ℕ) (s : ℕ) (old : List ℕ) → WrittenNumbers next s old 0 old s
unfolding in_turn
written_none next s old = record { same = refl; count = refl; written = refl; state = refl }

module _ (next : ℕ → List ℕ → ℕ → Drawn ℕ) (s : ℕ) (old : List ℕ) (j : ℕ) (out : List ℕ) (t : ℕ) (h : WrittenNumbers next s old j out t) where
  -- one draw more
  pub written_next : (r u : ℕ) → drawn r u ≡ next j (draw_all next j s).value t → drawn ((draw_all next j s).value ++ (r ∷ [])) u ≡ draw_all next (j + 1) s
  written_next r u e = draw_all-more next j s refl (e ∙ ap (next j (draw_all next j s).value) h.state)

  pub written-more : j < length old → (r u : ℕ) → drawn r u ≡ next j (draw_all next j s).value t → WrittenNumbers next s old (j + 1) (set out j r) u
  written-more room r u e = subst (λ d. Written (λ l. l) old (j + 1) d (set out j r) u) (written_next r u e)
      (written_on (λ l. l) old j (draw_all next j s) out t h (r ∷ []) 1 (drawn ((draw_all next j s).value ++ (r ∷ [])) u) (set out j r) refl refl (omega arith) refl)
