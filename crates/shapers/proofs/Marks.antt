-- Laws of the marks: by what the test of the split front answers, those of the feasible plans stand, or every plan is marked.
use Prim.Native.Nat.{ℕ, ◌+◌, ◌-◌, ◌<◌}
use mathlib.Core.Path.{◌≡◌, ap, ap₂, sym, ◌∙◌}
use mathlib.Core.Bool.{Bool, true, false, ◌&&◌}
use mathlib.Core.List.{List, ◌++◌}
use native.Mathlib.Omega.{arith}
use lib.ListN.{length, get_or, drop, replicate}
use Rattle.model.specs.declared.Edition.{Edition}
use Rattle.model.specs.Edition.{passes_over}
use Rattle.model.specs.Lists.{list_below, over}
use Rattle.list_laws.proofs.Built.{repeated, list_below-length, over_below, over-drop}
use Rattle.list_laws.proofs.Tests.{all_below-same}
use Rattle.shapers.specs.Marked.{marked, only_feasible, shapes_by}

-- where the edition passes over, the split front decides
pub by_front : (e : Edition) {b c r : Bool} → b ≡ passes_over e → b ≡ true → r ≡ c → r ≡ (passes_over e && c)
by_front e {b} {c} h t k = k ∙ ap (λ x. x && c) (sym t ∙ h)

-- and else not
pub by-edition : (e : Edition) (c : Bool) {b : Bool} → b ≡ passes_over e → b ≡ false → false ≡ (passes_over e && c)
by-edition e c h t = ap (λ x. x && c) (sym t ∙ h)

-- the first n marks are set
pub filled_front : (n : ℕ) (part marks : List Bool) → part ≡ replicate n true → part ++ drop n marks ≡ over (list_below (λ (p : ℕ). true) n) marks
filled_front n part marks h = ap₂ (λ a k. a ++ drop k marks) (h ∙ sym (repeated true n)) (sym (list_below-length (λ (p : ℕ). true) n))

-- whether each of n plans is feasible, f, is marked
module _ (e : Edition) (f : ℕ → Bool) (n whole end : ℕ) (order : List ℕ) (inside : (i : ℕ) → i < end → get_or order i 0 < n)
    (marks₀ marks₁ : List Bool) (filled : marks₁ ≡ over (list_below f n) marks₀) where
  mark-at : (p : ℕ) → p < n → marked marks₁ p ≡ f p
  mark-at p h = over_below f n marks₁ marks₀ p false filled h

  only_same : only_feasible e (marked marks₁) order whole end ≡ only_feasible e f order whole end
  only_same = ap (λ b. passes_over e && b)
      (all_below-same (λ k. marked marks₁ (get_or order (whole + k) 0)) (λ k. f (get_or order (whole + k) 0)) (end - whole)
      (λ k h. mark-at (get_or order (whole + k) 0) (inside (whole + k) (omega arith))))

  abbrev left : Bool → List Bool
  left b = over (list_below (shapes_by b f) n) marks₀

  pub feasible-stand : {r : Bool} → r ≡ only_feasible e (marked marks₁) order whole end → r ≡ true → marks₁ ≡ left (only_feasible e f order whole end)
  feasible-stand h t = filled ∙ ap left (sym t ∙ h ∙ only_same)

  rest-same : drop (length (list_below (λ (p : ℕ). true) n)) marks₁ ≡ drop (length (list_below (λ (p : ℕ). true) n)) marks₀
  rest-same =
      let k = list_below-length (λ (p : ℕ). true) n in
      ap (λ t. drop t marks₁) k ∙ ap (drop n) filled ∙ over-drop (list_below f n) marks₀ n (list_below-length f n) ∙ sym (ap (λ t. drop t marks₀) k)

  pub all-marked : {r : Bool} (marks₂ : List Bool) → marks₂ ≡ over (list_below (λ p. true) n) marks₁ → r ≡ only_feasible e (marked marks₁) order whole end → r ≡ false
      → marks₂ ≡ left (only_feasible e f order whole end)
  all-marked marks₂ g h t = g ∙ ap (λ d. list_below (λ p. true) n ++ d) rest-same ∙ ap left (sym t ∙ h ∙ only_same)
