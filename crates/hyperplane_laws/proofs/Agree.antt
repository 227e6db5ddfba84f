-- The plane looks at nothing past the m objectives: lists that agree below m give the same. And the first test that passes decides.
use Prim.Native.Nat.{ℕ, zero, suc, ◌<◌}
use mathlib.Core.Path.{◌≡◌, refl, ap, ap₂, sym}
use mathlib.Core.Bool.{Bool, true, false, not, ◌||◌, true≢false, false≢true}
use mathlib.Core.List.{List, ◌++◌}
use native.Mathlib.Omega.{arith}
use lib.Dec.{eqb}
use lib.Ieee.{Float, nan, lt}
use lib.Ieee.Scale.{finite}
use lib.ListN.{length, get_or}
use Rattle.model.specs.Lists.{over}
use Rattle.model.specs.Real.{◌⊖◌, ◌⊘◌}
use Rattle.model.specs.Real.{small_span}
use Rattle.list_laws.proofs.Tests.{any_below-same}
use Rattle.list_laws.proofs.Built.{over-drop}
use Rattle.model.specs.Hyperplane.{Matrix, put_row, plane_row, plane_rows, same_before, same_extremes, zero_pivot, unbounded_matrix, unbounded_in, unbounded, low_intercept, bound, beyond_row, beyond_bound, falls_back}
use Rattle.hyperplane_laws.specs.Flat.{plane_in}

-- ---- the first test that passes

pub or_yes : (a c : Bool) → a ≡ true → (a || c) ≡ true
or_yes true c e = refl
or_yes false c e = absurd (false≢true e)

pub or_past : (a c d : Bool) → a ≡ false → c ≡ d → (a || c) ≡ d
or_past true c d e f = absurd (true≢false e)
or_past false c d e f = f

-- ---- what stands over what stands over a list

pub over-over : {A : Type 0} (new mid old : List A) → length new ≡ length mid → over new (over mid old) ≡ over new old
over-over new mid old e = ap (λ t. new ++ t) (over-drop mid old (length new) (sym e))

-- ---- lists that agree below m

-- rows below i
pub plane_rows-same : (m : ℕ) (f g : ℕ → ℕ → Float) (ideal : ℕ → Float) (a : Matrix) (i : ℕ) → ((t : ℕ) → t < i → f t ≡ g t)
    → plane_rows m f ideal a i ≡ plane_rows m g ideal a i
unfolding plane_rows
plane_rows-same m f g ideal a zero h = refl
plane_rows-same m f g ideal a (suc i) h =
    ap₂ (λ (b : Matrix) (r : ℕ → Float). put_row m b i (plane_row m r ideal)) (plane_rows-same m f g ideal a i (λ t u. h t (omega arith))) (h i (omega arith))

module _ (m : ℕ) (e e' : List ℕ) (h : (t : ℕ) → t < m → get_or e t 0 ≡ get_or e' t 0) where
  before_same : (i : ℕ) → i < m → same_before e i ≡ same_before e' i
  unfolding same_before
  before_same i u = any_below-same _ _ i (λ t v. ap₂ eqb (h t (omega arith)) (h i u))

  extremes-same : same_extremes e m ≡ same_extremes e' m
  unfolding same_extremes
  extremes-same = any_below-same _ _ m before_same

module _ (m : ℕ) (y y' : List Float) (h : (t : ℕ) → t < m → get_or y t nan ≡ get_or y' t nan) where
  unbounded-same : unbounded_in y m ≡ unbounded_in y' m
  unfolding unbounded_in
  unbounded-same = any_below-same _ _ m (λ t u. ap (λ v. not (finite v)) (h t u))

  low_same : low_intercept y m ≡ low_intercept y' m
  unfolding low_intercept
  low_same = any_below-same _ _ m (λ t u. ap (λ v. not (lt small_span v)) (h t u))

  beyond-row-same : (row ideal : ℕ → Float) → beyond_row m row ideal y ≡ beyond_row m row ideal y'
  unfolding beyond_row
  beyond-row-same row ideal = any_below-same _ _ m (λ t u. ap (λ v. lt bound ((row t ⊖ ideal t) ⊘ v)) (h t u))

  beyond-same : (n : ℕ) (value : ℕ → ℕ → Float) (ideal : ℕ → Float) → beyond_bound n m value ideal y ≡ beyond_bound n m value ideal y'
  unfolding beyond_bound
  beyond-same n value ideal = any_below-same _ _ n (λ p u. beyond-row-same (value p) ideal)

pub falls-same : (n m : ℕ) (value : ℕ → ℕ → Float) (ideal : ℕ → Float) (e e' : List ℕ) (a : Matrix) (x y y' : List Float)
    → ((t : ℕ) → t < m → get_or e t 0 ≡ get_or e' t 0) → ((t : ℕ) → t < m → get_or y t nan ≡ get_or y' t nan)
    → falls_back n m value ideal (plane_in e a x y) ≡ falls_back n m value ideal (plane_in e' a x y')
unfolding falls_back unbounded
falls-same n m value ideal e e' a x y y' h k =
    ap₂ (λ (s t : Bool). s || (zero_pivot m a || t)) (extremes-same m e e' h)
    (ap₂ (λ (s t : Bool). (unbounded_matrix m a || (unbounded_in x m || s)) || t) (unbounded-same m y y' k)
    (ap₂ (λ (s t : Bool). s || t) (low_same m y y' k) (beyond-same m y y' k n value ideal)))
