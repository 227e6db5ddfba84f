-- A Float on a step: where refusals 6 and 12 do not apply, the greatest k is a whole number of at most 2^53, and the value of each k up to it lies within the bounds.
use Rattle.std.specs.Prelude.{Some}
use mathlib.Core.Path.{◌≡◌, refl, sym, ap, subst}
use mathlib.Core.Logic.{inl, inr}
use mathlib.Core.Bool.{true, false, not, ◌&&◌}
use Prim.Native.Nat.{ℕ, ◌+◌, ◌-◌, ◌*◌, ◌/◌, ◌^◌, ◌≤◌, ◌<◌, min}
use native.Mathlib.Nat.{div-lt_iff_lt-mul}
use native.Mathlib.Omega.{arith}
use lib.Dec.{T, leb→le, le→leb}
use lib.IntN.{ℤ, pos, negsuc, neg_ℤ}
use lib.Signed.{◌≤ℤ◌, le_z_yes}
use lib.Ieee.{Float, nan, inf, fin, binary64, up, down, add, sub, mul, div, le, lt, fits, is_nan, round, of_bits, of_int, to_signed}
use lib.Ieee.Fits.{down_pos, of_int-fits, mul-fits, add-fits, cond-fits}
use lib.Ieee.Exact.{HasValue}
use lib.Ieee.Back.{round_whole}
use lib.Ieee.Scale.{finite}
use mir.Syntax.{w64}
use mir.Val.{SFits}
use Rattle.list_laws.proofs.Bools.{and_left, and_right, and_t, true_T}
use Rattle.float_laws.proofs.Units.{Number, →sle, counts_of, le→counts}
use Rattle.float_laws.proofs.Order.{le_not_nan, lt→le, lt→counts}
use Rattle.float_laws.proofs.Rounding.{round-unsigned, div_rounded}
use Rattle.float_laws.proofs.Constants.{nought, exp2, minus_exp2, nought-counts, unsigned-from}
use Rattle.float_laws.proofs.Arithmetic.{sub_from_zero, mul-from-zero, left-below-sum, rounded-from-zero}
use Rattle.float_laws.proofs.FromZero.{sub_number}
use Rattle.real_laws.proofs.Nan.{rise}
use Rattle.real_laws.proofs.Clamped.{clamp-within}
use Rattle.rng_util.specs.Span.{Spanned}
use Rattle.model.specs.Real.{of_whole, within, infinity}
use Rattle.model.specs.Setting.{steps_of, last_step, on_step, valid_float_step, max_bound}

-- what is asked of the bounds and the step
pub record FloatStep (low high step : Float) : Type 0 where
  pub low-number : Number binary64 low
  pub high_number : Number binary64 high
  pub step-number : Number binary64 step
  pub ordered : T (le low high)
  pub low_end : T (le (minus_exp2 1000) low)
  pub high_end : T (le high (exp2 1000))
  pub above : T (lt nought step)
  pub few : T (le (steps_of low high step) (exp2 53))

-- ---- what the test of refusal 12 says

pub record StepTest (low high step : Float) : Type 0 where
  pub above : T (lt nought step)
  pub finite : T (finite step)
  pub few : T (le (steps_of low high step) (exp2 53))

below-infinity : (x : Float) → T (lt nought x) → T (lt x infinity) → T (finite x)
unfolding lt
below-infinity nan h k = absurd h
below-infinity (inf true) h k = absurd h
below-infinity (inf false) h k = absurd k
below-infinity (fin s m e) h k = tt

pub step-test : (low high step : Float) → valid_float_step low high (Some step) ≡ true → StepTest low high step
unfolding valid_float_step of_bits
step-test low high step h =
    let a = lt nought step in
    let b = lt step infinity in
    let c = le (steps_of low high step) max_bound in
    let p : T a = true_T a (and_left a (b && c) h) in
    let q = and_t b c (and_right a (b && c) h) in
    record { above = p; finite = below-infinity step p q.0; few = q.1 }

-- ---- a cast of what lies within 0..2^53

cast_zero : (m : ℕ) (e : ℤ) → m * up e * 1 ≤ 0 → m * up e / down e ≡ 0
cast_zero m e h =
    let a : m * up e / down e < 1 = (div-lt_iff_lt-mul (down_pos e)).1 (let d = down_pos e in omega arith) in
    omega arith

cast_small : (a d : ℕ) → 0 < d → a * 1 ≤ 1 * 2 ^ 53 * d → a / d ≤ 2 ^ 53
cast_small a d D h =
    let l : a / d < 2 ^ 53 + 1 = (div-lt_iff_lt-mul D).1 (omega arith) in
    omega arith

pub cast_upto : (x : Float) → T (le nought x) → T (le x (exp2 53)) → (n : ℕ) × (n ≤ 2 ^ 53) × (to_signed 63 x ≡ pos n)
unfolding le to_signed
cast_upto nan h k = absurd h
cast_upto (inf true) h k = absurd h
cast_upto (inf false) h k = absurd k
cast_upto (fin true m e) h k =
    let l = →sle false (0 * 1 * down e) true (m * up e * 1) h in
    (0, omega arith, ap (λ (n : ℕ). neg_ℤ (pos (min n (2 ^ 63)))) (cast_zero m e (omega arith)))
cast_upto (fin false m e) h k =
    let n = m * up e / down e in
    let l : n ≤ 2 ^ 53 = cast_small (m * up e) (down e) (down_pos e) (→sle false (m * up e * 1) false (1 * 2 ^ 53 * down e) k) in
    (n, l, ap pos (capped n l))
  where
    capped : (n : ℕ) → n ≤ 2 ^ 53 → min n (2 ^ 63 - 1) ≡ n
    capped n h = omega arith

-- ---- a whole number up to 2^53 as a double

value_finite : (x : Float) (n : ℕ) → HasValue x false n 1 → T (finite x)
value_finite nan n h = absurd h
value_finite (inf s) n h = absurd h
value_finite (fin s m e) n h = tt

whole-number : (n : ℕ) → n ≤ 2 ^ 53 → Number binary64 (of_whole (pos n))
unfolding of_int
whole-number n h = record { held = of_int-fits binary64 (pos n); finite = value_finite (round binary64 false n 1) n (round_whole binary64 false n h) }

whole-from-zero : (n : ℕ) → T (le nought (of_whole (pos n)))
unfolding of_int
whole-from-zero n = unsigned-from (round binary64 false n 1) (round-unsigned binary64 n 1)

-- ---- a number and what is from 0 up, together, are no NaN

to-infinity : (x : Float) → T (finite x) → T (not (is_nan (add binary64 x (inf false))))
unfolding add is_nan
to-infinity nan h = absurd h
to-infinity (inf s) h = absurd h
to-infinity (fin s m e) h = tt

sum-real : (x y : Float) → Number binary64 x → T (fits binary64 y) → T (le nought y) → T (not (is_nan (add binary64 x y)))
sum-real x y X f h = elim (rise y h) [
  | inl e ↦ subst (λ (z : Float). T (not (is_nan (add binary64 x z)))) (sym e) (to-infinity x X.finite)
  | inr g ↦ (le_not_nan x (add binary64 x y) (left-below-sum binary64 x y X (record { held = f; finite = g }) h)).1
]

-- ---- k from 0 to the greatest

upto : (k : ℤ) (m : ℕ) → pos 0 ≤ℤ k → k ≤ℤ pos m → (n : ℕ) × (n ≤ m) × (k ≡ pos n)
upto (pos n) m h l = (n, leb→le n m l.le, refl)
upto (negsuc n) m h l = absurd h.le

module _ (low high step : Float) (q : FloatStep low high step) where
  -- the quotient is from 0 up
  apart : Number binary64 (sub binary64 high low)
  apart = sub_number high low q.high_number q.low-number q.high_end q.low_end q.ordered

  apart-from-zero : T (le nought (sub binary64 high low))
  apart-from-zero = sub_from_zero binary64 high low q.high_number q.low-number q.ordered

  steps_from_zero : T (le nought (steps_of low high step))
  steps_from_zero =
      let x = sub binary64 high low in
      let a = counts_of binary64 x apart in
      let b = counts_of binary64 step q.step-number in
      let d1 : 0 + a.1 ≤ a.0 + 0 = le→counts binary64 nought x 0 0 a.0 a.1 (nought-counts binary64) a.2 apart-from-zero in
      let d2 : 0 + b.1 < b.0 + 0 = lt→counts binary64 nought step 0 0 b.0 b.1 (nought-counts binary64) b.2 q.above in
      rounded-from-zero binary64 (div binary64 x step) a.0 a.1 (b.0 - b.1) (omega arith)
      (div_rounded binary64 x step a.0 a.1 b.0 b.1 (omega arith) a.2 b.2) (omega arith)

  pub last_is : (n : ℕ) × (n ≤ 2 ^ 53) × (last_step low high step ≡ pos n)
  last_is = cast_upto (steps_of low high step) steps_from_zero q.few

  pub last_spanned : Spanned (pos 0) (last_step low high step)
  last_spanned = let n = last_is in subst (Spanned (pos 0)) (sym n.2) (le_z_yes (le→leb 0 n.0 (omega arith)), le_z_yes tt, le_z_yes (le→leb n.0 (2 ^ 53) n.1))

  pub last_fits : SFits w64 (last_step low high step)
  last_fits = let n = last_is in subst (SFits w64) (sym n.2) (record { sfits = omega arith })

  -- the value of such a k
  whole_in : (n : ℕ) → n ≤ 2 ^ 53 → T (within low high (on_step low high step (pos n)))
  whole_in n h =
      let product = mul binary64 (of_whole (pos n)) step in
      clamp-within low high (add binary64 low product) q.ordered
      (sum-real low product q.low-number (mul-fits binary64 (of_whole (pos n)) step)
      (mul-from-zero binary64 (of_whole (pos n)) step (whole-number n h) q.step-number (whole-from-zero n) (lt→le nought step q.above)))

  pub on-step_in : (k : ℤ) → pos 0 ≤ℤ k → k ≤ℤ last_step low high step → T (within low high (on_step low high step k))
  on-step_in k h l =
      let m = last_is in
      let n = upto k m.0 h (subst (λ (z : ℤ). k ≤ℤ z) m.2 l) in
      subst (λ (z : ℤ). T (within low high (on_step low high step z))) (sym n.2) (whole_in n.0 (omega arith))

-- and it is a double
pub on-step-fits : (low high step : Float) (k : ℤ) → T (fits binary64 low) → T (fits binary64 high) → T (fits binary64 (on_step low high step k))
on-step-fits low high step k L H =
    let x = add binary64 low (mul binary64 (of_whole k) step) in
    cond-fits binary64 (lt x low) low _ L (cond-fits binary64 (lt high x) high x H (add-fits binary64 low (mul binary64 (of_whole k) step)))
