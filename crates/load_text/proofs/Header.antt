-- The header's numbers and the marks, one after the other.
use Prim.Native.Nat.{ℕ, zero, suc, ◌+◌}
use mathlib.Core.Path.{◌≡◌, ap, sym, ◌∙◌}
use mathlib.Core.List.{List, [], ◌∷◌, ◌++◌, append-nil, append_assoc}
use native.Mathlib.Numerals.{add-one}
use lib.ListN.{replicate}
use Rattle.model.specs.PoolFile.{written, written_all}
use Rattle.form_laws.proofs.Lists.{written_none, written-more}
use Rattle.pool_form.specs.Form.{Adds}
use Rattle.pool_form.proofs.Pieces.{adds_none, adds_then, adds_as}

-- ---- marks

marks_suc : (n : ℕ) → written_all (replicate (suc n) 0) ≡ written_all (replicate n 0) ++ written 0
marks_suc zero = written-more 0 [] ∙ ap (λ l. written 0 ++ l) written_none ∙ append-nil (written 0) ∙ sym (ap (λ l. l ++ written 0) written_none)
marks_suc (suc n) =
    written-more 0 (replicate (suc n) 0) ∙ ap (λ l. written 0 ++ l) (marks_suc n) ∙ sym (append_assoc (written 0) (written_all (replicate n 0)) (written 0))
    ∙ ap (λ l. l ++ written 0) (sym (written-more 0 (replicate n 0)))

pub marks_none : (o : List ℕ) (at : ℕ) → Adds (written_all (replicate 0 0)) o at o at
marks_none o at = adds_as o o at at [] _ (sym written_none) (adds_none o at)

pub marks-more : (n : ℕ) (o₀ : List ℕ) (at : ℕ) (o : List ℕ) (p : ℕ) (o₂ : List ℕ) (r : ℕ) → Adds (written_all (replicate n 0)) o₀ at o p → Adds (written 0) o p o₂ r
    → Adds (written_all (replicate (n + 1) 0)) o₀ at o₂ r
marks-more n o₀ at o p o₂ r h d =
    adds_as o₀ o₂ at r _ _ (sym (ap (λ k. written_all (replicate k 0)) (add-one n) ∙ marks_suc n)) (adds_then o₀ o o₂ at p r _ _ h d)

-- ---- a number before others

pub number-first : (n : ℕ) (ns o₀ : List ℕ) (at : ℕ) (o₁ : List ℕ) (r₁ : ℕ) (o₂ : List ℕ) (r₂ : ℕ) → Adds (written n) o₀ at o₁ r₁ → Adds (written_all ns) o₁ r₁ o₂ r₂
    → Adds (written_all (n ∷ ns)) o₀ at o₂ r₂
number-first n ns o₀ at o₁ r₁ o₂ r₂ p q = adds_as o₀ o₂ at r₂ _ _ (sym (written-more n ns)) (adds_then o₀ o₁ o₂ at r₁ r₂ _ _ p q)
