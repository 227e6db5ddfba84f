-- Only the entries that are looked at matter: below n the plans, below m the objectives, below k the lines.
use Prim.Native.Nat.{ℕ, ◌<◌}
use mathlib.Core.Path.{◌≡◌, ap, ap₂}
use mathlib.Core.Bool.{cond}
use lib.Ieee.{Float, lt}
use Rattle.model.specs.declared.Edition.{Edition}
use Rattle.model.specs.Real.{◌⊖◌, ◌⊗◌, ◌⊘◌, infinity}
use Rattle.model.specs.Numbers.{square}
use Rattle.model.specs.Association.{dot, off_squares, squares_of, measure_of, distance, small_norm, near, nearest_of, nearer}
use Rattle.float_laws.proofs.Sums.{sum_same}
use Rattle.list_laws.proofs.Best.{best_same}

pub nearest-same : (d e : ℕ → Float) (n : ℕ) → ((t : ℕ) → t < n → d t ≡ e t) → nearest_of d n ≡ nearest_of e n
nearest-same d e n h = best_same nearer (near 0 infinity) _ _ n (λ t l. ap (near t) (h t l))

module _ (m : ℕ) (p q r s : ℕ → Float) (f : (j : ℕ) → j < m → p j ≡ q j) (g : (j : ℕ) → j < m → r j ≡ s j) where
  dot-same : dot m p r ≡ dot m q s
  dot-same = sum_same _ _ m (λ j h. ap₂ (λ x y. x ⊗ y) (f j h) (g j h))

  off_same : (t u : Float) → t ≡ u → off_squares m p r t ≡ off_squares m q s u
  off_same t u e = sum_same _ _ m (λ j h. ap square (ap₂ (λ x y. x ⊖ y) (f j h) (ap₂ (λ x y. x ⊗ y) e (g j h))))

pub squares_same : (m : ℕ) (p q r s : ℕ → Float) → ((j : ℕ) → j < m → p j ≡ q j) → ((j : ℕ) → j < m → r j ≡ s j) → squares_of m p r ≡ squares_of m q s
unfolding squares_of
squares_same m p q r s f g =
    let norm = dot-same m r s r s g g in
    let t = ap₂ (λ x y. x ⊘ y) (dot-same m p q r s f g) norm in
    ap₂ (λ n x. cond (lt n small_norm) infinity x) norm (off_same m p q r s f g _ _ t)

pub distance-same : (e : Edition) (m : ℕ) (p q r s : ℕ → Float) → ((j : ℕ) → j < m → p j ≡ q j) → ((j : ℕ) → j < m → r j ≡ s j) → distance e m p r ≡ distance e m q s
unfolding distance
distance-same e m p q r s f g = ap (measure_of e) (squares_same m p q r s f g)
