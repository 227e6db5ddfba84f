-- Of two doubles from 0 on, an infinity included, the larger has a root that is no smaller.
use mathlib.Core.Path.{sym, ap, subst}
use mathlib.Core.Logic.{inl, inr}
use Prim.Native.Nat.{ℕ, zero, suc, ◌+◌, ◌-◌, ◌*◌, ◌/◌, ◌^◌, ◌≤◌, ◌<◌, zero-le}
use native.Mathlib.Nat.{le_trans, le_of_eq, lt_of_le_of_lt, lt_of_lt_of_le, eq-or-lt_of_le, zero-lt-suc, mul-le-mul_right}
use native.Mathlib.Omega.{arith}
use lib.Dec.{T}
use lib.Pow.{pow-add, pow_mono, shr_lt, shr_mono}
use lib.Ieee.{Float, binary64, size, fits, le}
use lib.Ieee.Digits.{size-lt, size-le}
use Rattle.float_laws.proofs.Units.{le→count, count→le, top_digits}
use Rattle.float_laws.proofs.Order.{le_not_nan, le_trans as le-trans-float}
use Rattle.float_laws.proofs.Rounding.{between_finite}
use Rattle.float_laws.proofs.Constants.{nought, nought-counts, nought-not-nan}
use Rattle.float_laws.proofs.Arithmetic.{count}
use Rattle.model.specs.Numbers.{near_root, dropped, sqrt_of}
use Rattle.real_laws.proofs.Nan.{rise, below_inf}
use Rattle.real_laws.proofs.Roots.Whole.{near_root-near, near_mono, near_ge, near_lt}
use Rattle.real_laws.proofs.Roots.Units.{root_units, root_counts}

-- ---- the whole number nearest to a root
pub near_root_mono : (a b : ℕ) → a ≤ b → near_root a ≤ near_root b
near_root_mono zero b h = unfold near_root in zero-le
near_root_mono (suc a) b h = near_mono (suc a) b (near_root (suc a)) (near_root b) (near_root-near (suc a)) (near_root-near b) (zero-lt-suc a) h

-- ---- the digits that are kept: at most 53, and a carry; and 53 at least, where any is dropped
cover : (z : ℕ) → z ≤ 106 + 2 * ((z - 105) / 2)
cover z = omega arith

reach : (z : ℕ) → 0 < (z - 105) / 2 → 104 + 2 * ((z - 105) / 2) < z
reach z h = omega arith

pub kept_le : (n : ℕ) → near_root (n / 2 ^ (2 * dropped n)) ≤ 2 ^ 53
kept_le n = go (n / 2 ^ (2 * dropped n)) (shr_lt 106 (2 * dropped n) (lt_of_lt_of_le (size-lt n) (pow_mono (cover (size n)))))
  where
    go : (w : ℕ) → w < 2 ^ 106 → near_root w ≤ 2 ^ 53
    go zero h = unfold near_root in zero-le
    go (suc w) h = let x = near_lt (suc w) (near_root (suc w)) (2 ^ 53 + 1) (near_root-near (suc w)) (zero-lt-suc w) (omega arith) (omega arith) in omega arith

pub kept_ge : (n : ℕ) → 0 < dropped n → 2 ^ 52 ≤ near_root (n / 2 ^ (2 * dropped n))
kept_ge n h =
    let k = dropped n in
    near_ge (n / 2 ^ (2 * k)) (near_root (n / 2 ^ (2 * k))) (2 ^ 52) (near_root-near (n / 2 ^ (2 * k)))
    (top_digits n 104 (2 * k) (reach (size n) h))

-- ---- the root in units. Either both roots drop as many digits, or a power of two lies between the two
fewer : (x y : ℕ) → x ≤ y → (x - 105) / 2 ≤ (y - 105) / 2
fewer x y h = omega arith

room : (j k : ℕ) → j < k → 53 + j ≤ 52 + k
room j k h = omega arith

pub root_units_mono : (a b : ℕ) → a ≤ b → root_units a ≤ root_units b
root_units_mono a b h =
    let j = dropped a in
    let k = dropped b in
    elim (eq-or-lt_of_le (fewer (size a) (size b) (size-le a (size b) (lt_of_le_of_lt h (size-lt b))))) [
      | inl e ↦ subst (λ (i : ℕ). near_root (a / 2 ^ (2 * i)) * 2 ^ i ≤ root_units b) (sym e) (mul-le-mul_right (2 ^ k) (near_root_mono (a / 2 ^ (2 * k)) (b / 2 ^ (2 * k)) (shr_mono (2 * k) h)))
      | inr l ↦
          le_trans (mul-le-mul_right (2 ^ j) (kept_le a))
          (le_trans (le_of_eq (sym (pow-add 2 53 j)))
          (le_trans (pow_mono (room j k l))
          (le_trans (le_of_eq (pow-add 2 52 k)) (mul-le-mul_right (2 ^ k) (kept_ge b (lt_of_le_of_lt zero-le l))))))
    ]

-- ---- floats
pub sqrt_from_zero : (x : Float) → T (fits binary64 x) → T (le nought x) → T (le nought (sqrt_of x))
sqrt_from_zero x X h = elim (rise x h) [
  | inl e ↦ unfold sqrt_of in below_inf nought (sqrt_of x) nought-not-nan (ap sqrt_of e)
  | inr F ↦
      let c = count binary64 x (record { held = X; finite = F }) h in
      count→le binary64 nought (sqrt_of x) 0 (root_units (c.0 * 2 ^ 1074)) (nought-counts binary64) (root_counts x c.0 c.1) zero-le
]

pub sqrt_mono : (x y : Float) → T (fits binary64 x) → T (fits binary64 y) → T (le nought x) → T (le x y) → T (le (sqrt_of x) (sqrt_of y))
sqrt_mono x y X Y h l =
    let k = le-trans-float nought x y h l in
    elim (rise y k) [
      | inl e ↦ unfold sqrt_of in below_inf (sqrt_of x) (sqrt_of y) (le_not_nan nought (sqrt_of x) (sqrt_from_zero x X h)).1 (ap sqrt_of e)
      | inr F ↦
          let c = count binary64 x (record { held = X; finite = between_finite nought x y tt F h l }) h in
          let d = count binary64 y (record { held = Y; finite = F }) k in
          let m = le→count binary64 x y c.0 d.0 c.1 d.1 l in
          count→le binary64 (sqrt_of x) (sqrt_of y) (root_units (c.0 * 2 ^ 1074)) (root_units (d.0 * 2 ^ 1074)) (root_counts x c.0 c.1) (root_counts y d.0 d.1)
          (root_units_mono (c.0 * 2 ^ 1074) (d.0 * 2 ^ 1074) (mul-le-mul_right (2 ^ 1074) m))
    ]
