-- Laws of pieces written one after the other.
use Prim.Native.Nat.{ℕ, ◌+◌, ◌≤◌, ◌<◌}
use mathlib.Core.Path.{◌≡◌, refl, ap, sym, subst, ◌∙◌}
use mathlib.Core.Logic.{inl, inr, ⊎_elim}
use mathlib.Core.List.{List, [], ◌∷◌, ◌++◌, append_assoc, append-nil}
use native.Mathlib.Numerals.{add-one}
use native.Mathlib.Omega.{arith}
use lib.ListN.{length, take, set, length-append, length-set}
use lib.Seq.{take-suc-set}
use Rattle.pool_form.specs.Form.{Whole, Sofar, Adds}

-- ---- one byte

-- there is room for it
pub byte_room : (b : ℕ) (out : List ℕ) (at : ℕ) → at < length out → Adds (b ∷ []) out at (set out at b) (at + 1)
byte_room b out at h = record {
  same = length-set out at b;
  on = λ text s. ⊎_elim
      (λ w. let e = w.ends in inl (record {
        ends = omega (arith, length-append text (b ∷ []));
        within = omega (arith, length-append text (b ∷ []), length-set out at b);
        stands = ap (λ k. take k (set out at b)) (add-one at) ∙ take-suc-set out at b h ∙ ap (λ l. l ++ (b ∷ [])) w.stands;
      }))
      (λ w. absurd (omega (arith, w.past)))
      s;
}

-- there is none, for the first time
pub byte_full : (b : ℕ) (out : List ℕ) (at : ℕ) → at ≡ length out → Adds (b ∷ []) out at out (at + 1)
byte_full b out at h = record {
  same = refl;
  on = λ text s. ⊎_elim
      (λ w. inr (record { longer = omega (arith, w.ends, length-append text (b ∷ [])); past = omega arith }))
      (λ w. absurd (omega (arith, w.past)))
      s;
}

-- there was none before
pub byte_past : (b : ℕ) (out : List ℕ) (at : ℕ) → length out < at → Adds (b ∷ []) out at out at
byte_past b out at h = record {
  same = refl;
  on = λ text s. ⊎_elim
      (λ w. absurd (omega (arith, w.ends, w.within)))
      (λ w. inr (record { longer = omega (arith, w.longer, length-append text (b ∷ [])); past = h }))
      s;
}

-- ---- pieces

pub adds_none : (out : List ℕ) (at : ℕ) → Adds [] out at out at
adds_none out at = record { same = refl; on = λ text s. subst (λ t. Sofar t out at) (sym (append-nil text)) s }

pub adds_then : (o₀ o₁ o₂ : List ℕ) (at r₁ r₂ : ℕ) (a b : List ℕ) → Adds a o₀ at o₁ r₁ → Adds b o₁ r₁ o₂ r₂ → Adds (a ++ b) o₀ at o₂ r₂
adds_then o₀ o₁ o₂ at r₁ r₂ a b p q = record {
  same = q.same ∙ p.same;
  on = λ text s. subst (λ t. Sofar t o₂ r₂) (append_assoc text a b) (q.on (text ++ a) (p.on text s));
}

-- the same piece by another name
pub adds_as : (o₀ o₁ : List ℕ) (at r : ℕ) (a b : List ℕ) → a ≡ b → Adds a o₀ at o₁ r → Adds b o₀ at o₁ r
adds_as o₀ o₁ at r a b e p = subst (λ t. Adds t o₀ at o₁ r) e p

-- ---- the whole text, from the front of a slice

module _ (text before after : List ℕ) (r : ℕ) (p : Adds text before 0 after r) where
  all : Sofar text after r
  all = p.on [] (inl (record { ends = refl; within = omega arith; stands = refl }))

  -- where it fits, it stands there
  pub fitted : r ≤ length after → Whole text after r
  fitted h = ⊎_elim (λ w. w) (λ w. absurd (omega (arith, w.past))) all

  -- and where it is told to be longer, it is
  pub over-long : length after < r → length after < length text
  over-long h = ⊎_elim (λ w. absurd (omega (arith, w.ends, w.within))) (λ w. w.longer) all
