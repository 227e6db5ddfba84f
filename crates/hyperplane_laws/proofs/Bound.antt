-- THEOREM: where the plane serves, every value that it normalises lies within 0..2^100.
use Prim.Native.Nat.{ℕ, ◌<◌}
use mathlib.Core.Path.{◌≡◌, refl, sym, subst}
use mathlib.Core.Bool.{Bool, true, false, cond, not, true≢false}
use lib.Dec.{T}
use lib.Ieee.{Float, nan, binary64, lt, le, of_bits, fits, is_nan}
use lib.Ieee.Scale.{finite}
use lib.Ieee.Fits.{div-fits}
use lib.ListN.{get_or}
use Rattle.model.specs.Real.{◌⊖◌, ◌⊘◌, unit, small_span}
use Rattle.list_laws.proofs.Bools.{by_bool, true_T, false_T, or_right, or_left}
use Rattle.list_laws.proofs.Built.{list_below-at}
use Rattle.list_laws.proofs.Tests.{any_below-each}
use Rattle.float_laws.proofs.Order.{le_trans, lt_trans, lt→le, le_not_nan, nlt→le}
use Rattle.float_laws.proofs.Units.{Number}
use Rattle.float_laws.proofs.Constants.{nought, nought-number, exp2}
use Rattle.float_laws.proofs.Arithmetic.{itself, ratio, div_mono_left, sub_from_zero}
use Rattle.float_laws.proofs.FromZero.{Upto, sub_number}
use Rattle.float_laws.proofs.Magnitude.{Within, within-number}
use Rattle.model.specs.Hyperplane.{Plane, intercept_in, same_extremes, zero_pivot, unbounded_matrix, unbounded_in, unbounded, low_intercept, bound, beyond_row, beyond_bound, plane_through, plane_of, falls_back, intercepts_of}

-- a number from 0 up divided by one above 0 is from 0 up
pub quotient-from-zero : (x y : Float) → Number binary64 x → Number binary64 y → T (le nought x) → T (lt nought y) → T (le nought (x ⊘ y))
quotient-from-zero x y X Y h k =
    let Z = nought-number binary64 in
    le_trans nought (nought ⊘ y) (x ⊘ y) (ratio binary64 nought y Z Y (itself nought Z) (lt→le nought y k) k).0 (div_mono_left binary64 nought x y Z X Y k h)

not-false : (b : Bool) → not b ≡ false → b ≡ true
not-false true e = refl
not-false false e = absurd (true≢false e)

-- ---- where the tests fail

module _ (n m : ℕ) (value : ℕ → ℕ → Float) (ideal : ℕ → Float) (p : Plane) (served : falls_back n m value ideal p ≡ false) where
  abbrev y : ℕ → Float
  y j = get_or p.intercepts j nan

  last-three : (unbounded_in p.intercepts m ≡ false) × (low_intercept p.intercepts m ≡ false) × (beyond_bound n m value ideal p.intercepts ≡ false)
  unfolding falls_back unbounded
  last-three =
      let a = or_right (same_extremes p.extremes m) _ served in
      let b = or_right (zero_pivot m p.matrix) _ a in
      let c = or_right (unbounded m p) _ b in
      let d = or_right (unbounded_matrix m p.matrix) _ (or_left (unbounded m p) _ b) in
      (or_right (unbounded_in p.unknowns m) _ d, or_left (low_intercept p.intercepts m) _ c, or_right (low_intercept p.intercepts m) _ c)

  pub served_finite : (j : ℕ) → j < m → T (finite (y j))
  unfolding unbounded_in
  served_finite j h = true_T (finite (y j)) (not-false (finite (y j)) (any_below-each (λ j. not (finite (y j))) m last-three.0 j h))

  pub served_above : (j : ℕ) → j < m → T (lt small_span (y j))
  unfolding low_intercept
  served_above j h = true_T (lt small_span (y j)) (not-false (lt small_span (y j)) (any_below-each (λ j. not (lt small_span (y j))) m last-three.1 j h))

  pub served_bound : (q j : ℕ) → q < n → j < m → lt bound ((value q j ⊖ ideal j) ⊘ y j) ≡ false
  unfolding beyond_bound beyond_row
  served_bound q j h k =
      any_below-each (λ j. lt bound ((value q j ⊖ ideal j) ⊘ y j)) m (any_below-each (λ q. beyond_row m (value q) ideal p.intercepts) n last-three.2 q h) j k

-- the plane's intercepts are doubles
pub plane_fits : (n m : ℕ) (value : ℕ → ℕ → Float) (ideal : ℕ → Float) (j : ℕ) → j < m → T (fits binary64 (get_or (plane_of n m value ideal).intercepts j nan))
unfolding plane_of plane_through
plane_fits n m value ideal j h =
    let x = (plane_of n m value ideal).unknowns in
    subst (λ v. T (fits binary64 v)) (sym (list_below-at (intercept_in x) m nan j h)) (div-fits binary64 unit (get_or x j nan))

-- ---- a plane that serves bounds every normalised value

module _ (n m : ℕ) (value : ℕ → ℕ → Float) (ideal : ℕ → Float) (served : falls_back n m value ideal (plane_of n m value ideal) ≡ false)
    (q j : ℕ) (h : q < n) (k : j < m) (vals : Within 1000 (value q j)) (I : Within 1000 (ideal j)) (above : T (le (ideal j) (value q j))) where
  abbrev P : Plane
  P = plane_of n m value ideal

  abbrev c : Float
  c = get_or P.intercepts j nan

  pub bounded : Upto (exp2 100) ((value q j ⊖ ideal j) ⊘ c)
  unfolding lt of_bits is_nan
  bounded =
      let X = within-number 1000 (value q j) vals in
      let Z = within-number 1000 (ideal j) I in
      let D = sub_number (value q j) (ideal j) X Z vals.high I.low above in
      let C : Number binary64 c = record { held = plane_fits n m value ideal j k; finite = served_finite n m value ideal P served j k } in
      let positive = lt_trans nought small_span c tt (served_above n m value ideal P served j k) in
      let from = quotient-from-zero (value q j ⊖ ideal j) c D C (sub_from_zero binary64 (value q j) (ideal j) X Z above) positive in
      record {
        held = div-fits binary64 (value q j ⊖ ideal j) c;
        from = from;
        to = nlt→le bound ((value q j ⊖ ideal j) ⊘ c) tt (le_not_nan nought ((value q j ⊖ ideal j) ⊘ c) from).1
            (false_T (lt bound ((value q j ⊖ ideal j) ⊘ c)) (served_bound n m value ideal P served q j h k));
      }

-- ---- served or not: where the old intercept keeps the value within the bound, so does that of edition 2

module _ (n m : ℕ) (value : ℕ → ℕ → Float) (ideal : ℕ → Float) (q j : ℕ) (h : q < n) (k : j < m) (vals : Within 1000 (value q j)) (I : Within 1000 (ideal j))
    (above : T (le (ideal j) (value q j))) (old : ℕ → Float) (O : Upto (exp2 100) ((value q j ⊖ ideal j) ⊘ old j)) where
  abbrev falls : Bool
  falls = falls_back n m value ideal (plane_of n m value ideal)

  abbrev scaled_by : Bool → Float
  scaled_by b = (value q j ⊖ ideal j) ⊘ cond b (old j) (get_or (plane_of n m value ideal).intercepts j nan)

  -- THEOREM
  pub intercepts-upto : Upto (exp2 100) ((value q j ⊖ ideal j) ⊘ intercepts_of n m value ideal old j)
  unfolding intercepts_of
  intercepts-upto = by_bool falls
      (λ e. subst (λ b. Upto (exp2 100) (scaled_by b)) (sym e) O)
      (λ e. subst (λ b. Upto (exp2 100) (scaled_by b)) (sym e) (bounded n m value ideal e q j h k vals I above))
