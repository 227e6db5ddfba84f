-- "keeping P(lower) <= v < P(upper)": true of the ends from the first halving to the last, for 0 < v ≤ 2^51.
use mathlib.Core.Path.{◌≡◌, refl, sym, subst}
use mathlib.Core.Logic.{inl, inr}
use mathlib.Core.Bool.{false, not}
use Prim.Native.Nat.{ℕ, zero, suc, ◌+◌, ◌-◌, ◌/◌, ◌%◌, ◌^◌, ◌≤◌}
use native.Mathlib.Nat.{le_of_eq, le_trans as le-trans-ℕ}
use native.Mathlib.Omega.{arith}
use borrow.Author.Tests.{eqb-true, eqb-false}
use lib.Dec.{T, eqb}
use lib.Ieee.{Float, binary64, le, lt, mul, fits, is_nan, eq, of_bits, to_bits}
use lib.Ieee.Bits.{of_bits-fits, to_bits-of_bits}
use Rattle.float_laws.proofs.Units.{Number}
use Rattle.float_laws.proofs.Order.{le_trans, le_not_nan, lt→le, lt_not_nan, lt→nle, nle→lt, eq→le, le_lt_trans, lt_le_trans}
use Rattle.float_laws.proofs.Rounding.{unsigned, odd_unsigned}
use Rattle.float_laws.proofs.Patterns.{bits→le}
use Rattle.float_laws.proofs.Constants.{nought, nought_le_one, one, one_number, exp2, unsigned-from, unsigned-not-nan}
use Rattle.float_laws.proofs.Arithmetic.{mul_mono}
use Rattle.float_laws.proofs.FromZero.{Upto}
use Rattle.list_laws.proofs.Bools.{by_bool, by_cond, true_T, no_pass}
use Rattle.list_laws.proofs.Below.{by_lt}
use Rattle.model.specs.Real.{real, nought as origin}
use Rattle.model.specs.Numbers.{power_up, P, Ends, ends, halved, halvings, R}
use Rattle.real_laws.proofs.Roots.Pattern.{read_low, read_normal}
use Rattle.real_laws.proofs.Powers.{inf_mul, fits-power, power-from, power_mono, same_power}
use Rattle.real_laws.proofs.Nan.{rise, below_inf}
use Rattle.real_laws.specs.Parting.{Top}
use Rattle.real_laws.proofs.Halving.{by_halves, gap, adjacent, root_by}

-- ---- the real of a pattern up to that of 2^52
pattern : (b : ℕ) → b ≤ Top → T (unsigned (real b))
pattern b t = by_bool (eqb (b / 2 ^ 52) 0)
    (λ e. subst (λ (x : Float). T (unsigned x)) (sym (read_low b (eqb-true (b / 2 ^ 52) 0 e))) (odd_unsigned 53 (b % 2 ^ 52) 0 1074))
    (λ e. let f = eqb-false (b / 2 ^ 52) 0 e in
    subst (λ (x : Float). T (unsigned x)) (sym (read_normal b (b / 2 ^ 52 - 1) (b % 2 ^ 52) (omega arith) refl (omega arith)))
    (odd_unsigned 53 (2 ^ 52 + b % 2 ^ 52) (b / 2 ^ 52 - 1) 1074))

pub record FromZero (b : ℕ) : Type 0 where
  pub clear : T (unsigned (real b))
  pub from : T (le nought (real b))
  pub own : to_bits binary64 (real b) ≡ b

pub from_zero : (b : ℕ) → b ≤ Top → FromZero b
from_zero b t =
    let c = pattern b t in
    record { clear = c; from = unsigned-from (real b) c; own = to_bits-of_bits binary64 b (omega arith) (unsigned-not-nan (real b) c) }

-- ---- the first two ends
one-top : mul binary64 one (exp2 52) ≡ exp2 52
unfolding mul
one-top = refl

-- what is known of 0, 1, 2^51 and 2^52 by computing
record Orders : Type 0 where
  one-top : T (le one (exp2 52))
  half-top : T (lt (exp2 51) (exp2 52))
  nought-top : T (lt nought (exp2 52))
  top-top : T (le (exp2 52) (exp2 52))
  top-fits : T (fits binary64 (exp2 52))
  top-real : T (not (is_nan (exp2 52)))

orders : Orders
unfolding le lt fits is_nan
orders = record { one-top = tt; half-top = tt; nought-top = tt; top-top = tt; top-fits = tt; top-real = tt }

top-number : Number binary64 (exp2 52)
top-number = record { held = orders.top-fits; finite = tt }

-- no power of 2^52 is below it
top-power : (j : ℕ) → T (le (exp2 52) (power_up (exp2 52) j))
unfolding power_up
top-power zero = orders.top-top
top-power (suc j) =
    let p = power_up (exp2 52) j in
    let h = top-power j in
    elim (rise p (le_trans nought (exp2 52) p (lt→le nought (exp2 52) orders.nought-top) h)) [
      | inl e ↦ below_inf (exp2 52) (mul binary64 p (exp2 52)) orders.top-real (inf_mul p (exp2 52) e orders.nought-top)
      | inr G ↦
          subst (λ (x : Float). T (le x (mul binary64 p (exp2 52)))) one-top
          (mul_mono binary64 one p (exp2 52) (exp2 52) (one_number binary64) (record { held = fits-power (exp2 52) orders.top-fits j; finite = G }) top-number top-number
          nought_le_one (lt→le nought (exp2 52) orders.nought-top) (le_trans one (exp2 52) p orders.one-top h) orders.top-top)
    ]

pub not-zero : (v : Float) → T (lt nought v) → eq v origin ≡ false
unfolding of_bits
not-zero v h = no_pass (eq v origin) (λ e. lt→nle nought v h (eq→le v nought (true_T _ e)))

-- ---- every halving
module _ (v : Float) (k : ℕ) (above : T (lt nought v)) (small : T (le v (exp2 51))) where
  pub record Kept (e : Ends) : Type 0 where
    pub under : T (le (P (real e.lower) k) v)
    pub over : T (lt v (P (real e.upper) k))

  first : Kept (ends 0 Top)
  unfolding of_bits mul
  first =
      record {
        under = subst (λ (x : Float). T (le x v)) (sym (same_power nought refl (k - 1))) (lt→le nought v above);
        over = le_lt_trans v (exp2 51) (power_up (exp2 52) (k - 1)) small (lt_le_trans (exp2 51) (exp2 52) (power_up (exp2 52) (k - 1)) orders.half-top (top-power (k - 1)));
      }

  -- the middle parts them: its power is at most v, or beyond it
  beyond : (m : ℕ) → m ≤ Top → le (P (real m) k) v ≡ false → T (lt v (P (real m) k))
  beyond m t e =
      let n = power-from (real m) (of_bits-fits binary64 m) (from_zero m t).from (k - 1) in
      nle→lt v (P (real m) k) (lt_not_nan nought v above).1 (le_not_nan nought (P (real m) k) n).1 (subst T e)

  step : (l u : ℕ) → u ≤ Top → Kept (ends l u) → Kept (halved v k (ends l u))
  step l u t r = by_halves v k l u Kept
      (λ h. r)
      (λ h b. record { under = true_T _ b; over = r.over })
      (λ h b. record { under = r.under; over = beyond ((l + u) / 2) (omega arith) b })

  pub kept : (n : ℕ) → Kept (halvings v k n)
  unfolding halvings
  kept zero = first
  kept (suc n) = let e = halvings v k n in step e.lower e.upper (gap v k n).top (kept n)

  -- ---- so for R: its power is at most v, and that of the next double is beyond v
  pub lower_is : R v k ≡ real (halvings v k 63).lower
  lower_is = root_by v k false (not-zero v above)

  pub root_under : T (le (P (R v k) k) v)
  root_under = subst (λ (x : Float). T (le (P x k) v)) (sym lower_is) (kept 63).under

  pub next_over : T (lt v (P (real (suc (halvings v k 63).lower)) k))
  next_over = subst (λ (u : ℕ). T (lt v (P (real u) k))) (adjacent v k) (kept 63).over

  -- no double from zero up that is greater has a power of at most v
  pub root_greatest : (y : Float) → T (fits binary64 y) → T (unsigned y) → T (le (P y k) v) → T (le y (R v k))
  root_greatest y Y N h =
      let l = (halvings v k 63).lower in
      let g = gap v k 63 in
      let a = adjacent v k in
      let o = g.order in
      let t = g.top in
      let here = from_zero l (omega arith) in
      let next = from_zero (suc l) (omega arith) in
      by_lt l (to_bits binary64 y)
      (λ e. let up = bits→le binary64 (real (suc l)) y (of_bits-fits binary64 (suc l)) Y next.clear N (le-trans-ℕ (le_of_eq next.own) e) in
      absurd
      (lt→nle v (P (real (suc l)) k) next_over
      (le_trans (P (real (suc l)) k) (P y k) v (power_mono (real (suc l)) y (of_bits-fits binary64 (suc l)) Y next.from up (k - 1)) h)))
      (λ e. subst (λ (x : Float). T (le y x)) (sym lower_is)
      (bits→le binary64 y (real l) Y (of_bits-fits binary64 l) N here.clear (le-trans-ℕ e (le_of_eq (sym here.own)))))

-- ---- of any v and k: R lies within 0..2^52
real-within : (b : ℕ) → b ≤ Top → Upto (exp2 52) (real b)
unfolding to_bits
real-within b t =
    let f = from_zero b t in
    record { held = of_bits-fits binary64 b; from = f.from; to = bits→le binary64 (real b) (exp2 52) (of_bits-fits binary64 b) orders.top-fits f.clear tt (le-trans-ℕ (le_of_eq f.own) t) }

pub root_within : (v : Float) (k : ℕ) → Upto (exp2 52) (R v k)
unfolding R
root_within v k = by_cond (Upto (exp2 52)) (eq v origin) origin (real (halvings v k 63).lower)
    (λ e. real-within 0 (omega arith))
    (λ e. real-within (halvings v k 63).lower (let g = gap v k 63 in let o = g.order in let t = g.top in omega arith))
