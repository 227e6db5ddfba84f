-- "The pool's first with least `asf`", and "the first row as they then stand on equal magnitudes": of all that are looked at none is better than the one that is found,
-- and each before it is worse. Of numbers that are no NaN.
use Prim.Native.Nat.{ℕ, zero, suc, ◌+◌, ◌-◌, ◌≤◌, ◌<◌}
use mathlib.Core.Path.{◌≡◌, ap, ap₂, sym, ◌∙◌}
use mathlib.Core.Bool.{Bool, true, false, true≢false}
use native.Mathlib.Nat.{zero-add}
use native.Mathlib.Omega.{arith}
use lib.Ieee.{Float, inf, lt, is_nan}
use Rattle.model.specs.Lists.{best_from}
use Rattle.model.specs.Real.{◌⊖◌, ◌⊘◌, above}
use Rattle.list_laws.proofs.Below.{neither_below}
use Rattle.list_laws.proofs.Bools.{by_cond, true_T, false_T, T_true}
use Rattle.list_laws.proofs.Best.{best_all, best_least, best_same}
use Rattle.float_laws.proofs.Order.{nlt→le, le_lt_trans, lt_not_nan}
use Rattle.float_laws.proofs.Compared.{lt_self, lt_down, lt_up, lt_past}
use Rattle.model.specs.Hyperplane.{Matrix, entry, magnitude, pivot_row, weight, asf, extreme}

module _ (beats : ℕ → ℕ → Bool) (itself : (x : ℕ) → beats x x ≡ false) (down : (x y z : ℕ) → beats x y ≡ false → beats z y ≡ true → beats x z ≡ false) (s N : ℕ)
    (past : (x y t : ℕ) → t < N → beats x y ≡ true → beats (s + t) y ≡ false → beats x (s + t) ≡ true) where
  abbrev found : ℕ → ℕ
  found n = best_from beats s (λ t. s + t) n

  reached : (n : ℕ) → found n ≤ s + n
  reached n = best_all beats (λ r. r ≤ s + n) s (λ t. s + t) n (omega arith) (λ t h. omega arith)

  before_worse : (n : ℕ) → n ≤ N → (t : ℕ) → s + t < found n → beats (found n) (s + t) ≡ true
  unfolding best_from
  before_worse zero few t h = absurd (omega arith)
  before_worse (suc n) few t h = by_cond (λ r. s + t < r → beats r (s + t) ≡ true) (beats (s + n) (found n)) (s + n) (found n)
      (λ e l. past (s + n) (found n) t (omega arith) e (best_least beats itself down s (λ t. s + t) n t (omega arith)))
      (λ e l. before_worse n (omega arith) t l) h

-- ---- the extreme plan

module _ (n m : ℕ) (value : ℕ → ℕ → Float) (ideal : ℕ → Float) (i : ℕ) where
  abbrev g : ℕ → Float
  g p = asf m (value p) ideal i

  abbrev lesser : ℕ → ℕ → Bool
  lesser p q = lt (g p) (g q)

  -- THEOREM: no plan has a lesser asf, ..
  pub extreme-least : (t : ℕ) → t < n → lt (g t) (g (extreme n m value ideal i)) ≡ false
  unfolding extreme
  extreme-least t h = best_least lesser (λ x. lt_self (g x)) (λ x y z. lt_down (g x) (g y) (g z)) 0 (λ p. p) n t h

  module _ (known : (t : ℕ) → t < n → is_nan (g t) ≡ false) where
    nearer : (x y t : ℕ) → t < n → lesser x y ≡ true → lesser (0 + t) y ≡ false → lesser x (0 + t) ≡ true
    nearer x y t u e f = lt_past (g x) (g y) (g (0 + t)) e f (ap (λ z. is_nan (g z)) (zero-add t) ∙ known t u)

    -- .. and each before the extreme has a greater one
    pub extreme-first : (t : ℕ) → t < extreme n m value ideal i → lt (g (extreme n m value ideal i)) (g t) ≡ true
    unfolding extreme
    extreme-first t h =
        let e = best_same lesser 0 (λ p. p) (λ t. 0 + t) n (λ t u. sym (zero-add t)) in
        ap₂ (λ r x. lt (g r) (g x)) e (sym (zero-add t))
        ∙ before_worse lesser (λ x. lt_self (g x)) (λ x y z. lt_down (g x) (g y) (g z)) 0 n nearer n (omega arith) t (omega (arith, e))

-- THEOREM: two extremes with equal rows are the same plan, so "the same plan" may be read either way
module _ (n m : ℕ) (value : ℕ → ℕ → Float) (ideal : ℕ → Float) (known : (i t : ℕ) → t < n → is_nan (asf m (value t) ideal i) ≡ false) where
  asf-row : (p q i : ℕ) → ((j : ℕ) → j < m → value p j ≡ value q j) → asf m (value p) ideal i ≡ asf m (value q) ideal i
  unfolding asf
  asf-row p q i h = best_same above (inf true) _ _ m (λ j u. ap (λ v. (v ⊖ ideal j) ⊘ weight i j) (h j u))

  not-before : (i k : ℕ) → ((j : ℕ) → j < m → value (extreme n m value ideal i) j ≡ value (extreme n m value ideal k) j)
      → extreme n m value ideal i < extreme n m value ideal k → ⊥
  not-before i k h l =
      let p = extreme n m value ideal i in
      let q = extreme n m value ideal k in
      true≢false (sym (extreme-first n m value ideal k (known k) p l) ∙ ap (λ x. lt (asf m (value q) ideal k) x) (asf-row p q k h) ∙ lt_self (asf m (value q) ideal k))

  pub equal-rows : (i k : ℕ) → ((j : ℕ) → j < m → value (extreme n m value ideal i) j ≡ value (extreme n m value ideal k) j)
      → extreme n m value ideal i ≡ extreme n m value ideal k
  equal-rows i k h = neither_below (extreme n m value ideal i) (extreme n m value ideal k) (not-before i k h) (not-before k i (λ j u. sym (h j u)))

-- ---- the pivot row

module _ (m : ℕ) (a : Matrix) (k : ℕ) (known : (i : ℕ) → is_nan (magnitude (entry a i k)) ≡ false) where
  abbrev size : ℕ → Float
  size i = magnitude (entry a i k)

  abbrev greater : ℕ → ℕ → Bool
  greater p q = lt (size q) (size p)

  further : (x y z : ℕ) → greater x y ≡ true → greater z y ≡ false → greater x z ≡ true
  further x y z e f =
      let l = true_T (lt (size y) (size x)) e in
      T_true (lt (size z) (size x))
      (le_lt_trans (size z) (size y) (size x)
      (nlt→le (size y) (size z) (lt_not_nan (size y) (size x) l).0 (false_T (is_nan (size z)) (known z)) (false_T (lt (size y) (size z)) f)) l)

  -- THEOREM: no row from k on has a greater magnitude in column k, ..
  pub pivot-greatest : (i : ℕ) → k ≤ i → i < m → lt (size (pivot_row m a k)) (size i) ≡ false
  unfolding pivot_row
  pivot-greatest i h g =
      let e : i ≡ k + (i - k) = omega arith in
      ap (λ t. lt (size (pivot_row m a k)) (size t)) e
      ∙ best_least greater (λ x. lt_self (size x)) (λ x y z. lt_up (size x) (size y) (size z)) k (λ t. k + t) (m - k) (i - k) (omega arith)

  -- .. and each before it has a lesser one
  pub pivot-first : (i : ℕ) → k ≤ i → i < pivot_row m a k → lt (size i) (size (pivot_row m a k)) ≡ true
  unfolding pivot_row
  pivot-first i h g =
      let e : i ≡ k + (i - k) = omega arith in
      ap (λ t. lt (size t) (size (pivot_row m a k))) e
      ∙ before_worse greater (λ x. lt_self (size x)) (λ x y z. lt_up (size x) (size y) (size z)) k (m - k) (λ x y t u. further x y (k + t)) (m - k) (omega arith) (i - k)
      (omega arith)
