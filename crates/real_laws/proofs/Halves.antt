-- `round` by whole numbers: of x above zero, with the whole part n, the nearest whole number is n, or n + 1 where twice x, which is exact, is 2n + 1 or more.
-- From 2^52 on a double is whole, and is its own rounding.
use mathlib.Core.Path.{◌≡◌, refl, sym, ap, ◌∙◌, subst}
use Prim.Native.Nat.{ℕ, zero, suc, ◌+◌, ◌-◌, ◌*◌, ◌/◌, ◌^◌, ◌≤◌, ◌<◌, min}
use native.Mathlib.Nat.{le_trans, le_of_eq, le_of_lt, le_antisymm, le_of_suc-le-suc, lt_of_le_of_lt, lt_of_not-le, zero-lt-suc, suc-mul, one-mul, mul-one, mul_comm, mul_assoc, mul_left_comm, mul_right_comm, mul-pos, add-mul, mul-le-mul_right, le_of_mul-le-mul_right, pow-succ', div-lt_iff_lt-mul, le-div_iff_mul-le, div-mul-le_self}
use native.Mathlib.Numerals.{add-one}
use native.Mathlib.Omega.{arith}
use mathlib.Core.Bool.{Bool, true, false}
use borrow.Author.Tests.{ltb-false}
use lib.IntN.{ℤ, pos, negsuc}
use lib.Dec.{T, lit<, eqb→eq}
use lib.Pow.{pow_pos}
use lib.Ieee.{Float, nan, inf, fin, binary64, up, down, add, round, le, lt, fits, to_unsigned, neg, of_int}
use lib.Ieee.Fits.{up_pos, down_pos, round-fits}
use lib.Ieee.Exact.{HasValue, round_exact}
use lib.Ieee.Back.{round_whole, whole_unique}
use lib.Ieee.Order.{le_of_values}
use lib.Ieee.Positive.{positive_of_value, values_of_le}
use Rattle.float_laws.proofs.Units.{no_sum, →sle, →slt, placed, zero_exponent}
use Rattle.float_laws.proofs.Order.{le_trans as le-trans-float, le_not_nan, lt→le, lt→nle, nle→lt, lt_le_trans, le_lt_trans}
use Rattle.float_laws.proofs.Rounding.{le_neg, round_neg, under}
use Rattle.float_laws.proofs.Constants.{nought, nought-not-nan, exp2}
use Rattle.list_laws.proofs.Bools.{true_T}
use Rattle.model.specs.Numbers.{round_of}
use Rattle.real_laws.proofs.Nan.{no_minus}

-- ---- twice x as a fraction
sum_same : (s : Bool) (m : ℕ) (e : ℤ) → add binary64 (fin s m e) (fin s m e) ≡ round binary64 s (m * up e * down e + m * up e * down e) (down e * down e)
unfolding add
sum_same true m e = refl
sum_same false m e = refl

units_twice : (A d L m P Q : ℕ) → A * L ≡ m * P * d → Q ≡ 2 * P → (A * d + A * d) * L ≡ m * Q * (d * d)
units_twice A d L m P Q h q =
    let x : (A * d + A * d) * L ≡ A * d * L + A * d * L = add-mul (A * d) (A * d) L in
    let y : A * d * L ≡ m * P * (d * d) = mul_right_comm A d L ∙ ap (λ (z : ℕ). z * d) h ∙ mul_assoc (m * P) d d in
    let z : m * Q * (d * d) ≡ 2 * (m * P * (d * d)) = ap (λ (w : ℕ). m * w * (d * d)) q ∙ simp (mul_assoc, mul_comm, mul_left_comm) in
    omega arith

double_val : (s : Bool) (m : ℕ) (e : ℤ) → T (fits binary64 (fin s m e)) → m * up e ≤ 2 ^ 52 * down e → HasValue (add binary64 (fin s m e) (fin s m e)) s (m * up e * down e + m * up e * down e) (down e * down e)
double_val s m e X b =
    let j = placed binary64 s m e X in
    let d = down e in
    let A = m * up e in
    let g = m * 2 ^ j.0 in
    let u : A * 2 ^ 1074 ≤ 2 ^ 52 * d * 2 ^ 1074 = mul-le-mul_right (2 ^ 1074) b in
    let g-le : g ≤ 2 ^ 52 * 2 ^ 1074 = le_of_mul-le-mul_right (le_trans (le_of_eq (sym j.1)) (le_trans u (le_of_eq (mul_right_comm (2 ^ 52) d (2 ^ 1074))))) (down_pos e) in
    let eq : m * 2 ^ suc j.0 ≡ g * 2 = ap (λ (z : ℕ). m * z) (pow-succ' 2 j.0 ∙ mul_comm 2 (2 ^ j.0)) ∙ sym (mul_assoc m (2 ^ j.0) 2) in
    let small : m * 2 ^ suc j.0 < 2 ^ (1074 + 1024) = lt_of_le_of_lt (le_trans (le_of_eq eq) (mul-le-mul_right 2 g-le)) (lit< tt) in
    subst (λ (z : Float). HasValue z s (A * d + A * d) (d * d)) (sym (sum_same s m e))
    (round_exact binary64 s (A * d + A * d) (d * d) m (suc j.0) (mul-pos (down_pos e) (down_pos e)) j.2 small
    (units_twice A d (2 ^ 1074) m (2 ^ j.0) (2 ^ suc j.0) j.1 (pow-succ' 2 j.0)))

-- ---- x above zero, below 2^52, is A / d with the whole part w
quotient : (n D q : ℕ) → 0 < D → q * D ≤ n → n < suc q * D → n / D ≡ q
quotient n D q P a b = le_antisymm (le_of_suc-le-suc ((div-lt_iff_lt-mul P).1 b)) ((le-div_iff_mul-le P).1 a)

-- what the test compares, over one denominator
scaled_up : (w A d : ℕ) → 0 < d → (2 * w + 1) * (d * d) ≤ (A * d + A * d) * 1 → (2 * w + 1) * d ≤ A + A
scaled_up w A d D h =
    let e : (A * d + A * d) * 1 ≡ (A + A) * d = mul-one (A * d + A * d) ∙ sym (add-mul A A d) in
    le_of_mul-le-mul_right (le_trans (le_of_eq (mul_assoc (2 * w + 1) d d)) (le_trans h (le_of_eq e))) D

scaled_back : (w A d : ℕ) → (2 * w + 1) * d ≤ A + A → (2 * w + 1) * (d * d) ≤ (A * d + A * d) * 1
scaled_back w A d h =
    let e : (A * d + A * d) * 1 ≡ (A + A) * d = mul-one (A * d + A * d) ∙ sym (add-mul A A d) in
    le_trans (le_of_eq (sym (mul_assoc (2 * w + 1) d d))) (le_trans (mul-le-mul_right d h) (le_of_eq (sym e)))

module _ (A d : ℕ) (D : 0 < d) where
  abbrev part : ℕ
  part = A / d

  from : part * d ≤ A
  from = div-mul-le_self A d

  to : A < part * d + d
  to = subst (λ (z : ℕ). A < z) (suc-mul part d) ((div-lt_iff_lt-mul D).0 (omega arith))

  odd_times : (2 * part + 1) * d ≡ 2 * (part * d) + d
  odd_times = add-mul (2 * part) 1 d ∙ ap (λ (z : ℕ). z + 1 * d) (mul_assoc 2 part d) ∙ ap (λ (z : ℕ). 2 * (part * d) + z) (one-mul d)

  times : (q : ℕ) → q * (2 * d) ≡ 2 * (q * d)
  times q = mul_left_comm q 2 d

  -- half a unit and more above the whole part, or less
  pub up_to : (2 * part + 1) * d ≤ A + A → (2 * A + d) / (2 * d) ≡ part + 1
  up_to h =
      let a = from in
      let b = to in
      let c = odd_times in
      let e = times part in
      let f = suc-mul part (2 * d) in
      let g = suc-mul (suc part) (2 * d) in
      quotient (2 * A + d) (2 * d) (suc part) (omega arith) (omega arith) (omega arith) ∙ sym (add-one part)

  pub down_to : A + A < (2 * part + 1) * d → (2 * A + d) / (2 * d) ≡ part
  down_to h =
      let a = from in
      let c = odd_times in
      let e = times part in
      let f = suc-mul part (2 * d) in
      quotient (2 * A + d) (2 * d) part (omega arith) (omega arith) (omega arith)

-- ---- what the code asks and makes of it
bound : (A d : ℕ) → A * 1 < 1 * 2 ^ 52 * d → A < 2 ^ 52 * d
bound A d h = omega arith

pub castable : (x : Float) → T (le nought x) → T (le x (exp2 52)) → T (lt (fin true 1 (pos 0)) x) × T (lt x (fin false 1 (pos 64)))
unfolding lt
castable x h k = (lt_le_trans (fin true 1 (pos 0)) nought x tt h, le_lt_trans x (exp2 52) (fin false 1 (pos 64)) k tt)

num_pos : (m : ℕ) (e : ℤ) → T (lt nought (fin false m e)) → 0 < m * up e
unfolding lt
num_pos m e h = let l = →slt false (0 * 1 * down e) false (m * up e * 1) h in omega arith

-- the whole part n of x: it is the answer, or the next number where twice x is at least 2n + 1
pub record Parted (x : Float) (n : ℕ) : Type 0 where
  pub small : n < 2 ^ 52
  pub up : le (of_int binary64 (pos (2 * n + 1))) (add binary64 x x) ≡ true → of_int binary64 (pos (n + 1)) ≡ round_of x
  pub down : le (of_int binary64 (pos (2 * n + 1))) (add binary64 x x) ≡ false → of_int binary64 (pos n) ≡ round_of x

pub parted : (x : Float) → T (fits binary64 x) → T (lt nought x) → T (lt x (exp2 52)) → Parted x (to_unsigned 64 x)
unfolding lt to_unsigned of_int round_of
parted nan X h k = absurd h
parted (inf true) X h k = absurd h
parted (inf false) X h k = absurd k
parted (fin true m e) X h k = absurd h
parted (fin false m e) X h k =
    let x = fin false m e in
    let A = m * up e in
    let d = down e in
    let D = down_pos e in
    let n = A / d in
    let b : A < 2 ^ 52 * d = bound A d (→slt false (A * 1) false (1 * 2 ^ 52 * d) k) in
    let s : n < 2 ^ 52 = (div-lt_iff_lt-mul D).1 b in
    let odd = round binary64 false (2 * n + 1) 1 in
    let v : HasValue odd false (2 * n + 1) 1 = round_whole binary64 false (2 * n + 1) (omega arith) in
    let u : HasValue (add binary64 x x) false (A * d + A * d) (d * d) = double_val false m e X (le_of_lt b) in
    let p : 0 < A = num_pos m e h in
    let q : 0 < A * d + A * d = let r = mul-pos p D in omega arith in
    subst (Parted x) (sym (capped n s))
    (record {
      small = s;
      up = λ t.
          ap (λ (z : ℕ). round binary64 false z 1)
          (sym (up_to A d D (scaled_up n A d D (values_of_le odd (add binary64 x x) (2 * n + 1) 1 (A * d + A * d) (d * d) (positive_of_value odd (2 * n + 1) 1 v (omega arith)) (positive_of_value (add binary64 x x) (A * d + A * d) (d * d) u q) v u (true_T _ t)))));
      down = λ t.
          ap (λ (z : ℕ). round binary64 false z 1)
          (sym (down_to A d D (lt_of_not-le (λ (g : (2 * n + 1) * d ≤ A + A). subst T t (le_of_values odd (add binary64 x x) (2 * n + 1) 1 (A * d + A * d) (d * d) (lit< tt) (mul-pos D D) v u (scaled_back n A d g))))));
    })
  where
    capped : (n : ℕ) → n < 2 ^ 52 → min n (2 ^ 64 - 1) ≡ n
    capped n h = omega arith

-- ---- from 2^52 on
whole-own : (m k : ℕ) → T (fits binary64 (fin false m (pos k))) → round binary64 false (m * 2 ^ k) 1 ≡ fin false m (pos k)
whole-own m k X =
    let j = placed binary64 false m (pos k) X in
    whole_unique binary64 (round binary64 false (m * 2 ^ k) 1) (fin false m (pos k)) false (m * 2 ^ k) (round-fits binary64 false (m * 2 ^ k) 1) X
    (round_exact binary64 false (m * 2 ^ k) 1 m j.0 (lit< tt) j.2 (under binary64 m (pos k) j.0 j.1 j.3) j.1)
    (refl, refl)

-- a fraction would take more than 53 digits
no_fraction : (m k : ℕ) → T (fits binary64 (fin false m (negsuc k))) → T (le (exp2 52) (fin false m (negsuc k))) → ⊥
unfolding le
no_fraction m k X h =
    let j = placed binary64 false m (negsuc k) X in
    let l : 1 * 2 ^ 52 * 2 ^ suc k ≤ m * 1 * 1 = →sle false (1 * 2 ^ 52 * 2 ^ suc k) false (m * 1 * 1) h in
    over m (2 ^ suc k) (2 ^ k) (pow-succ' 2 k) (pow_pos k) l j.2
  where
    over : (m p q : ℕ) → p ≡ 2 * q → 0 < q → 1 * 2 ^ 52 * p ≤ m * 1 * 1 → m < 2 ^ 53 → ⊥
    over m p q e h l k = omega arith

pub from-whole : (x : Float) → T (fits binary64 x) → T (le (exp2 52) x) → x ≡ round_of x
unfolding round_of le
from-whole nan X h = refl
from-whole (inf s) X h = refl
from-whole (fin true m e) X h = absurd (no_minus 52 m e h)
from-whole (fin false m (negsuc k)) X h = absurd (no_fraction m k X h)
from-whole (fin false m (pos k)) X h = sym (ap (λ (z : ℕ). round binary64 false z 1) (same (m * 2 ^ k)) ∙ whole-own m k X)
  where
    same : (a : ℕ) → (2 * a + 1) / 2 ≡ a
    same a = omega arith

-- ---- the sign stands
neg_neg : (x : Float) → neg (neg x) ≡ x
unfolding neg
neg_neg nan = refl
neg_neg (inf true) = refl
neg_neg (inf false) = refl
neg_neg (fin true m e) = refl
neg_neg (fin false m e) = refl

round-of_neg : (x : Float) → round_of (neg x) ≡ neg (round_of x)
unfolding round_of neg
round-of_neg nan = refl
round-of_neg (inf s) = refl
round-of_neg (fin true m e) =
    let n = (2 * (m * up e) + down e) / (2 * down e) in
    sym (ap neg (round_neg binary64 n 1) ∙ neg_neg (round binary64 false n 1))
round-of_neg (fin false m e) = round_neg binary64 ((2 * (m * up e) + down e) / (2 * down e)) 1

pub round-by_neg : (x : Float) → neg (round_of (neg x)) ≡ round_of x
round-by_neg x = ap neg (round-of_neg x) ∙ neg_neg (round_of x)

-- -x is above zero where x is below it
pub above_zero : (x : Float) → T (lt x nought) → T (lt nought (neg x))
unfolding neg le
above_zero x h =
    let n = le_neg x nought (lt→le x nought h) in
    nle→lt nought (neg x) nought-not-nan (le_not_nan (neg nought) (neg x) n).1
    (λ g. lt→nle x nought h (le-trans-float nought (neg nought) x tt (subst (λ (z : Float). T (le (neg nought) z)) (neg_neg x) (le_neg (neg x) nought g))))

pub from-whole_neg : (x : Float) → T (fits binary64 (neg x)) → T (le (exp2 52) (neg x)) → x ≡ round_of x
from-whole_neg x X h = sym (neg_neg x) ∙ ap neg (from-whole (neg x) X h) ∙ round-by_neg x

-- ---- neither above zero nor below it: a zero, with its sign, or a NaN
pub zero_or_nan : (x : Float) → T (fits binary64 x) → lt nought x ≡ false → lt x nought ≡ false → x ≡ round_of x
unfolding round_of fits lt
zero_or_nan nan X h k = refl
zero_or_nan (inf s) X h k = refl
zero_or_nan (fin s zero e) X h k =
    let z = zero_exponent e (eqb→eq (up e * down e) 1 X) in
    subst (λ (d : ℤ). fin s 0 d ≡ round_of (fin s 0 d)) (sym z) refl
zero_or_nan (fin true (suc m) e) X h k =
    absurd (no_sum (suc m * up e * 1) (0 * 1 * down e) (mul-pos (mul-pos (zero-lt-suc m) (up_pos e)) (zero-lt-suc 0)) (ltb-false 0 (suc m * up e * 1 + 0 * 1 * down e) k))
zero_or_nan (fin false (suc m) e) X h k =
    absurd (none (suc m * up e * 1) (down e) (mul-pos (mul-pos (zero-lt-suc m) (up_pos e)) (zero-lt-suc 0)) (ltb-false (0 * 1 * down e) (suc m * up e * 1) h))
  where
    none : (a d : ℕ) → 0 < a → a ≤ 0 * 1 * d → ⊥
    none a d p h = omega arith
