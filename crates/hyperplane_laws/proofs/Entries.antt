-- What a step does, entry by entry: rows k and p change places, then entry (i, j) of each row i below k becomes
-- b i j - (b i k / b k k) * b k j, of the matrix b that the swap left, and every other entry stays.
use Prim.Native.Nat.{ℕ, zero, suc, ◌+◌, ◌-◌, ◌*◌, ◌≤◌, ◌<◌}
use mathlib.Core.Path.{◌≡◌, refl, ap, ap₂, sym, ◌∙◌}
use mathlib.Core.List.{List, [], ◌∷◌}
use native.Mathlib.Nat.{suc-add, add-suc, add-zero}
use native.Mathlib.Omega.{arith}
use borrow.Author.Tests.{eqb-true, eqb-false}
use lib.Dec.{eqb}
use lib.Ieee.{Float, nan}
use lib.ListN.{length, get_or, set, length-set}
use lib.Seq.{sets, length-sets, get_or-set_same}
use Rattle.model.specs.Lists.{list_below}
use Rattle.model.specs.Real.{◌⊖◌, ◌⊗◌, ◌⊘◌}
use Rattle.list_laws.proofs.Bools.{by_bool}
use Rattle.list_laws.proofs.Below.{by_lt}
use Rattle.list_laws.proofs.Built.{list_below-length, list_below-at}
use Rattle.model.specs.Hyperplane.{Matrix, entry, put_row, pivot_row, swapped, less_row, cleared, stepped}
use Rattle.hyperplane_laws.proofs.Rows.{sets_else}

-- a run holds what was stored
run_here : {A : Type 0} (d : A) (l : List A) (i : ℕ) (s : List A) (k : ℕ) → k < length s → i + k < length l → get_or (sets l i s) (i + k) d ≡ get_or s k d
run_here d l i [] k h g = absurd (omega arith)
run_here d l i (x ∷ s) zero h g =
    rw add-zero (sets_else d (set l i x) (suc i) s i (λ u. omega arith) ∙ get_or-set_same l i x d (omega arith))
run_here d l i (x ∷ s) (suc k) h g =
    ap (λ (t : ℕ). get_or (sets (set l i x) (suc i) s) t d) (add-suc i k ∙ sym (suc-add i k))
    ∙ run_here d (set l i x) (suc i) s k (omega arith) (simp length-set (omega arith))

module _ (m : ℕ) (few : m ≤ 8) where
  -- ---- a row that is put

  put-length : (a : Matrix) (i : ℕ) (f : ℕ → Float) → length (put_row m a i f) ≡ length a
  put-length a i f = length-sets a (i * 9) (list_below f (m + 1))

  pub put-here : (a : Matrix) (i : ℕ) (f : ℕ → Float) (j : ℕ) → 72 ≤ length a → i < 8 → j < m + 1 → entry (put_row m a i f) i j ≡ f j
  put-here a i f j room h k =
      run_here nan a (i * 9) (list_below f (m + 1)) j (omega (arith, list_below-length f (m + 1))) (omega arith) ∙ list_below-at f (m + 1) nan j k

  pub put_else : (a : Matrix) (i : ℕ) (f : ℕ → Float) (r j : ℕ) → (r ≡ i → ⊥) → j < m + 1 → entry (put_row m a i f) r j ≡ entry a r j
  put_else a i f r j other k =
      let n = list_below-length f (m + 1) in
      sets_else nan a (i * 9) (list_below f (m + 1)) (r * 9 + j)
      (λ u. by_lt r i (λ l. absurd (omega arith)) (λ l. by_lt i r (λ q. omega arith) (λ q. absurd (other (omega arith)))))

  -- ---- the swap

  pub swapped-length : (a : Matrix) (k p : ℕ) → length (swapped m a k p) ≡ length a
  unfolding swapped
  swapped-length a k p = put-length (put_row m a k (entry a p)) p (entry a k) ∙ put-length a k (entry a p)

  pub swapped-second : (a : Matrix) (k p j : ℕ) → 72 ≤ length a → p < 8 → j < m + 1 → entry (swapped m a k p) p j ≡ entry a k j
  unfolding swapped
  swapped-second a k p j room h u = put-here (put_row m a k (entry a p)) p (entry a k) j (omega (arith, put-length a k (entry a p))) h u

  pub swapped-first : (a : Matrix) (k p j : ℕ) → 72 ≤ length a → k < 8 → p < 8 → j < m + 1 → entry (swapped m a k p) k j ≡ entry a p j
  unfolding swapped
  swapped-first a k p j room h g u = by_bool (eqb k p)
      (λ e. let v = eqb-true k p e in
      ap (λ t. entry (swapped m a k p) t j) v ∙ swapped-second a k p j room g u ∙ ap (λ t. entry a t j) v)
      (λ e. put_else (put_row m a k (entry a p)) p (entry a k) k j (eqb-false k p e) u ∙ put-here a k (entry a p) j room h u)

  pub swapped_else : (a : Matrix) (k p r j : ℕ) → (r ≡ k → ⊥) → (r ≡ p → ⊥) → j < m + 1 → entry (swapped m a k p) r j ≡ entry a r j
  unfolding swapped
  swapped_else a k p r j f g u = put_else (put_row m a k (entry a p)) p (entry a k) r j g u ∙ put_else a k (entry a p) r j f u

  -- ---- the rows below

  -- entry (i, j) once row i has lost its share of row k
  abbrev pub less : Matrix → ℕ → ℕ → ℕ → Float
  less a k i j = entry a i j ⊖ ((entry a i k ⊘ entry a k k) ⊗ entry a k j)

  less_row-here : (a : Matrix) (k i j : ℕ) → 72 ≤ length a → i < 8 → j < m + 1 → entry (less_row m a k i) i j ≡ less a k i j
  unfolding less_row
  less_row-here a k i j room h u = put-here a i (less a k i) j room h u

  less_row_else : (a : Matrix) (k i r j : ℕ) → (r ≡ i → ⊥) → j < m + 1 → entry (less_row m a k i) r j ≡ entry a r j
  unfolding less_row
  less_row_else a k i r j f u = put_else a i (less a k i) r j f u

  pub cleared-length : (a : Matrix) (k t : ℕ) → length (cleared m a k t) ≡ length a
  unfolding cleared less_row
  cleared-length a k zero = refl
  cleared-length a k (suc t) = put-length (cleared m a k t) (k + 1 + t) (less (cleared m a k t) k (k + 1 + t)) ∙ cleared-length a k t

  -- the rows up to k, and those past the t rows below it
  cleared_else : (a : Matrix) (k t r j : ℕ) → (k < r → k + 1 + t ≤ r) → j < m + 1 → entry (cleared m a k t) r j ≡ entry a r j
  unfolding cleared
  cleared_else a k zero r j f u = refl
  cleared_else a k (suc t) r j f u =
      less_row_else (cleared m a k t) k (k + 1 + t) r j (λ e. omega (arith, f (omega arith))) u
      ∙ cleared_else a k t r j (λ l. omega (arith, f l)) u

  -- and each of the t rows
  cleared-here : (a : Matrix) (k t i j : ℕ) → 72 ≤ length a → k < m → k < i → i < k + 1 + t → k + 1 + t ≤ m → j < m + 1 → entry (cleared m a k t) i j ≡ less a k i j
  unfolding cleared
  cleared-here a k zero i j room b h g n u = absurd (omega arith)
  cleared-here a k (suc t) i j room b h g n u = by_lt i (k + 1 + t)
      (λ l. less_row_else (cleared m a k t) k (k + 1 + t) i j (λ e. omega arith) u ∙ cleared-here a k t i j room b h l (omega arith) u)
      (λ l. let e : i ≡ k + 1 + t = omega arith in
      let row : (c : ℕ) → c < m + 1 → entry (cleared m a k t) i c ≡ entry a i c = λ c v. cleared_else a k t i c (λ q. omega arith) v in
      let top : (c : ℕ) → c < m + 1 → entry (cleared m a k t) k c ≡ entry a k c = λ c v. cleared_else a k t k c (λ q. absurd (omega arith)) v in
      ap (λ q. entry (less_row m (cleared m a k t) k q) i j) (sym e)
      ∙ less_row-here (cleared m a k t) k i j (omega (arith, cleared-length a k t)) (omega arith) u
      ∙ ap₂ (λ x y. x ⊖ y) (row j u) (ap₂ (λ x y. x ⊗ y) (ap₂ (λ x y. x ⊘ y) (row k (omega arith)) (top k (omega arith))) (top j u)))

  -- ---- a step

  module _ (a : Matrix) (k : ℕ) (room : 72 ≤ length a) (h : k < m) where
    -- what the swap leaves
    abbrev pub b : Matrix
    b = swapped m a k (pivot_row m a k)

    -- THEOREM: rows up to k
    pub stepped-upper : (i j : ℕ) → i ≤ k → j < m + 1 → entry (stepped m a k) i j ≡ entry b i j
    unfolding stepped
    stepped-upper i j g u = cleared_else b k (m - (k + 1)) i j (λ l. absurd (omega arith)) u

    -- THEOREM: rows below k
    pub stepped-lower : (i j : ℕ) → k < i → i < m → j < m + 1 → entry (stepped m a k) i j ≡ less b k i j
    unfolding stepped
    stepped-lower i j g n u = cleared-here b k (m - (k + 1)) i j (omega (arith, swapped-length a k (pivot_row m a k))) h g (omega arith) (omega arith) u

    pub stepped-length : length (stepped m a k) ≡ length a
    unfolding stepped
    stepped-length = cleared-length b k (m - (k + 1)) ∙ swapped-length a k (pivot_row m a k)
