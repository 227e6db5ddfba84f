-- A matrix with a 0, .., a (m - 1) on its diagonal, zeros beside it and right sides 1 stays as it is through every step, and its unknowns are 1 / a i.
use Prim.Native.Nat.{ℕ, zero, suc, ◌+◌, ◌-◌, ◌*◌, ◌≤◌, ◌<◌}
use mathlib.Core.Path.{◌≡◌, refl, ap, ap₂, sym, subst, ◌∙◌}
use mathlib.Core.Bool.{Bool, true, false, cond}
use mathlib.Core.List.{List}
use native.Mathlib.Nat.{add-zero}
use native.Mathlib.Omega.{arith}
use borrow.Author.Tests.{eq-eqb, ne_eqb, eqb-true, eqb-false}
use lib.Dec.{T, eqb}
use lib.Ieee.{Float, nan, binary64, fits, lt}
use lib.ListN.{length, get_or}
use Rattle.model.specs.Lists.{best_from}
use Rattle.model.specs.Real.{◌⊖◌, ◌⊗◌, ◌⊘◌, nought, unit}
use Rattle.list_laws.proofs.Bools.{by_bool}
use Rattle.list_laws.proofs.Below.{by_lt}
use Rattle.float_laws.proofs.Compared.{lt_self}
use Rattle.model.specs.Hyperplane.{Matrix, entry, magnitude, pivot_row, swapped, stepped, eliminated, less_known, solved}
use Rattle.hyperplane_laws.proofs.Entries.{swapped-second, swapped_else, stepped-upper, stepped-lower, stepped-length}
use Rattle.hyperplane_laws.proofs.Unknowns.{unknown-row}
use Rattle.plane_laws.specs.Axes.{inverts}
use Rattle.plane_laws.proofs.Powers.{back, quotient, product, term, difference, greatest, unit_product, zero_product, unit_difference, zero_difference}

-- a search stays where it starts if nothing beats that
best_stays : (beats : ℕ → ℕ → Bool) (b : ℕ) (f : ℕ → ℕ) (n : ℕ) → ((t : ℕ) → t < n → beats (f t) b ≡ false) → best_from beats b f n ≡ b
unfolding best_from
best_stays beats b f zero h = refl
best_stays beats b f (suc n) h =
    ap (λ l. cond (beats (f n) l) (f n) l) (best_stays beats b f n (λ t u. h t (omega arith))) ∙ ap (λ c. cond c (f n) b) (h n (omega arith))

module _ (m : ℕ) (few : m ≤ 8) (a : ℕ → Float) (held : (i : ℕ) → i < m → T (fits binary64 (a i))) (inv : (i : ℕ) → i < m → inverts (a i) ≡ true) where
  -- the entries
  abbrev pub diagonal : ℕ → ℕ → Float
  diagonal i j = cond (eqb j m) unit (cond (eqb i j) (a i) nought)

  abbrev pub Diagonal : Matrix → Type 0
  Diagonal M = (i j : ℕ) → i < m → j < m + 1 → entry M i j ≡ diagonal i j

  right : (i : ℕ) → diagonal i m ≡ unit
  right i = ap (λ b. cond b unit (cond (eqb i m) (a i) nought)) (eq-eqb m m refl)

  pub beside : (i j : ℕ) → (j ≡ m → ⊥) → (i ≡ j → ⊥) → diagonal i j ≡ nought
  beside i j f g = ap₂ (λ b c. cond b unit (cond c (a i) nought)) (ne_eqb j m f) (ne_eqb i j g)

  pub own : (i : ℕ) → i < m → diagonal i i ≡ a i
  own i h = ap₂ (λ b c. cond b unit (cond c (a i) nought)) (ne_eqb i m (λ e. omega arith)) (eq-eqb i i refl)

  -- each entry, by where it stands
  by_place : {C : Type 0} (i j : ℕ) → i < m → (diagonal i j ≡ unit → C) → (diagonal i j ≡ a i → C) → (diagonal i j ≡ nought → C) → C
  by_place i j h r o z = by_bool (eqb j m)
      (λ e. r (ap (diagonal i) (eqb-true j m e) ∙ right i))
      (λ e. by_bool (eqb i j)
      (λ f. o (ap (diagonal i) (sym (eqb-true i j f)) ∙ own i h))
      (λ f. z (beside i j (eqb-false j m e) (eqb-false i j f))))

  none_taken : (i j : ℕ) → i < m → nought ⊗ diagonal i j ≡ nought
  none_taken i j h = by_place i j h
      (λ e. ap (λ v. nought ⊗ v) e ∙ unit_product)
      (λ e. ap (λ v. nought ⊗ v) e ∙ product (a i) (held i h) (inv i h))
      (λ e. ap (λ v. nought ⊗ v) e ∙ zero_product)

  less_none : (i j : ℕ) → i < m → diagonal i j ⊖ nought ≡ diagonal i j
  less_none i j h = by_place i j h
      (λ e. ap (λ v. v ⊖ nought) e ∙ unit_difference ∙ sym e)
      (λ e. ap (λ v. v ⊖ nought) e ∙ difference (a i) (held i h) (inv i h) ∙ sym e)
      (λ e. ap (λ v. v ⊖ nought) e ∙ zero_difference ∙ sym e)

  -- ---- a step

  module _ (M : Matrix) (room : 72 ≤ length M) (D : Diagonal M) (k : ℕ) (h : k < m) where
    -- its pivot row is row k
    pivot-own : pivot_row m M k ≡ k
    unfolding pivot_row
    pivot-own = best_stays (λ p q. lt (magnitude (entry M q k)) (magnitude (entry M p k))) k (λ t. k + t) (m - k)
        (λ t u. by_bool (eqb t 0)
        (λ e. let z : k + t ≡ k = omega (arith, eqb-true t 0 e) in
        ap (λ p. lt (magnitude (entry M k k)) (magnitude (entry M p k))) z ∙ lt_self (magnitude (entry M k k)))
        (λ e. let other : k + t ≡ k → ⊥ = λ q. eqb-false t 0 e (omega arith) in
        ap₂ (λ x y. lt (magnitude x) (magnitude y)) (D k k h (omega arith) ∙ own k h) (D (k + t) k (omega arith) (omega arith) ∙ beside (k + t) k (λ q. omega arith) other)
        ∙ greatest (a k) (held k h) (inv k h)))

    abbrev b : Matrix
    b = swapped m M k (pivot_row m M k)

    swap_none : (i j : ℕ) → j < m + 1 → entry b i j ≡ entry M i j
    swap_none i j u =
        ap (λ p. entry (swapped m M k p) i j) pivot-own
        ∙ by_bool (eqb i k)
        (λ e. let z = eqb-true i k e in
        ap (λ t. entry (swapped m M k k) t j) z ∙ swapped-second m few M k k j room (omega arith) u ∙ ap (λ t. entry M t j) (sym z))
        (λ e. swapped_else m few M k k i j (eqb-false i k e) (eqb-false i k e) u)

    same-b : (i j : ℕ) → i < m → j < m + 1 → entry b i j ≡ diagonal i j
    same-b i j g u = swap_none i j u ∙ D i j g u

    -- THEOREM
    pub step-diagonal : Diagonal (stepped m M k)
    step-diagonal i j g u = by_lt k i
        (λ l.
        stepped-lower m few M k room h i j l g u
        ∙ ap₂ (λ x y. x ⊖ y) (same-b i j g u) (ap₂ (λ x y. x ⊗ y) (ap₂ (λ x y. x ⊘ y) (same-b i k g (omega arith) ∙ beside i k (λ e. omega arith) (λ e. omega arith))
        (same-b k k h (omega arith) ∙ own k h) ∙ quotient (a k) (held k h) (inv k h)) (same-b k j h u))
        ∙ ap (λ y. diagonal i j ⊖ y) (none_taken k j h)
        ∙ less_none i j g)
        (λ l. stepped-upper m few M k room h i j l u ∙ same-b i j g u)

  -- all steps
  pub steps_diagonal : (M : Matrix) → 72 ≤ length M → Diagonal M → (k : ℕ) → k ≤ m → Diagonal (eliminated m M k) × (length (eliminated m M k) ≡ length M)
  unfolding eliminated
  steps_diagonal M room D zero h = (D, refl)
  steps_diagonal M room D (suc k) h =
      let r = steps_diagonal M room D k (omega arith) in
      let wide : 72 ≤ length (eliminated m M k) = omega (arith, r.1) in
      (step-diagonal (eliminated m M k) wide r.0 k (omega arith), stepped-length m few (eliminated m M k) k wide (omega arith) ∙ r.1)

  -- ---- the unknowns

  module _ (M : Matrix) (D : Diagonal M) (x : List Float) (room : m ≤ length x) where
    abbrev solution : List Float
    solution = solved m M x m

    less_known_lem : (i : ℕ) → i < m → ((j : ℕ) → i < j → j < m → get_or solution j nan ≡ unit ⊘ a j) → (t : ℕ) → t ≤ m - (i + 1) → less_known m M solution i t ≡ unit
    unfolding less_known
    less_known_lem i h known zero g = D i m h (omega arith) ∙ right i
    less_known_lem i h known (suc t) g =
        let j = i + 1 + t in
        ap₂ (λ r v. r ⊖ v) (less_known_lem i h known t (omega arith))
        (ap₂ (λ u v. u ⊗ v) (D i j h (omega arith) ∙ beside i j (λ e. omega arith) (λ e. omega arith)) (known j (omega arith) (omega arith))
        ∙ term (a j) (held j (omega arith)) (inv j (omega arith)))
        ∙ unit_difference

    -- THEOREM: from the last up
    pub unknown_inverse : (d i : ℕ) → i < m → m ≤ i + d → get_or solution i nan ≡ unit ⊘ a i
    unknown_inverse zero i h g = absurd (omega arith)
    unknown_inverse (suc d) i h g =
        unknown-row m M x room i h
        ∙ ap₂ (λ r v. r ⊘ v) (less_known_lem i h (λ j u v. unknown_inverse d j v (omega arith)) (m - (i + 1)) (omega arith)) (D i i h (omega arith) ∙ own i h)
