-- The loops' steps: nothing done yet, and one turn more.
use Prim.Native.Nat.{ℕ, ◌+◌, ◌-◌, ◌<◌}
use mathlib.Core.Path.{◌≡◌, refl, ap}
use mathlib.Core.List.{List}
use native.Mathlib.Numerals.{add-one}
use native.Mathlib.Omega.{arith}
use lib.Ieee.{Float, nan, lt}
use lib.ListN.{get_or, set}
use Rattle.model.specs.Real.{◌⊖◌, ◌⊗◌}
use Rattle.list_laws.proofs.Best.{best_all}
use Rattle.model.specs.Hyperplane.{Matrix, entry, put_row, plane_row, plane_rows, magnitude, pivot_row, less_row, cleared, stepped, eliminated, less_known, unknown, solved, asf, extreme}

module _ (m : ℕ) where
  pub plane_rows_none : (rows : ℕ → ℕ → Float) (ideal : ℕ → Float) (a : Matrix) → plane_rows m rows ideal a 0 ≡ a
  unfolding plane_rows
  plane_rows_none rows ideal a = refl

  pub plane_rows-more : (rows : ℕ → ℕ → Float) (ideal : ℕ → Float) (a : Matrix) (i : ℕ)
      → plane_rows m rows ideal a (i + 1) ≡ put_row m (plane_rows m rows ideal a i) i (plane_row m (rows i) ideal)
  unfolding plane_rows
  plane_rows-more rows ideal a i = ap (plane_rows m rows ideal a) (add-one i)

  pub cleared_none : (a : Matrix) (k : ℕ) → cleared m a k 0 ≡ a
  unfolding cleared
  cleared_none a k = refl

  pub cleared_more : (a : Matrix) (k t : ℕ) → cleared m a k (t + 1) ≡ less_row m (cleared m a k t) k (k + 1 + t)
  unfolding cleared
  cleared_more a k t = ap (cleared m a k) (add-one t)

  pub eliminated_none : (a : Matrix) → eliminated m a 0 ≡ a
  unfolding eliminated
  eliminated_none a = refl

  pub eliminated-more : (a : Matrix) (k : ℕ) → eliminated m a (k + 1) ≡ stepped m (eliminated m a k) k
  unfolding eliminated
  eliminated-more a k = ap (eliminated m a) (add-one k)

  pub less_known_none : (a : Matrix) (x : List Float) (i : ℕ) → less_known m a x i 0 ≡ entry a i m
  unfolding less_known
  less_known_none a x i = refl

  pub less_known-more : (a : Matrix) (x : List Float) (i t : ℕ)
      → less_known m a x i (t + 1) ≡ less_known m a x i t ⊖ (entry a i (i + 1 + t) ⊗ get_or x (i + 1 + t) nan)
  unfolding less_known
  less_known-more a x i t = ap (less_known m a x i) (add-one t)

  pub solved_none : (a : Matrix) (x : List Float) → solved m a x 0 ≡ x
  unfolding solved
  solved_none a x = refl

  pub solved-more : (a : Matrix) (x : List Float) (t : ℕ)
      → solved m a x (t + 1) ≡ set (solved m a x t) (m - (t + 1)) (unknown m a (solved m a x t) (m - (t + 1)))
  unfolding solved
  solved-more a x t = ap (solved m a x) (add-one t)

  -- the pivot row is one of those looked at
  pub pivot-below : (a : Matrix) (k : ℕ) → k < m → pivot_row m a k < m
  unfolding pivot_row
  pivot-below a k h = best_all (λ p q. lt (magnitude (entry a q k)) (magnitude (entry a p k))) (λ p. p < m) k (λ t. k + t) (m - k) h (λ t u. omega arith)

-- an extreme is a plan of the pool
pub extreme-below : (n m : ℕ) (value : ℕ → ℕ → Float) (ideal : ℕ → Float) (i : ℕ) → 0 < n → extreme n m value ideal i < n
unfolding extreme
extreme-below n m value ideal i h =
    best_all (λ p q. lt (asf m (value p) ideal i) (asf m (value q) ideal i)) (λ p. p < n) 0 (λ p. p) n h (λ t u. u)
