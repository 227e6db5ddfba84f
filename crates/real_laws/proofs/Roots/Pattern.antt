-- A double's bit pattern, read and written: the exponent's field above 52 digits.
use mathlib.Core.Path.{◌≡◌, refl, sym, ap, ◌∙◌, subst}
use Prim.Native.Nat.{ℕ, suc, ◌+◌, ◌-◌, ◌*◌, ◌/◌, ◌%◌, ◌^◌, ◌≤◌, ◌<◌}
use native.Mathlib.Nat.{mul-pos}
use native.Mathlib.Omega.{arith}
use mathlib.Core.Bool.{Bool, false, not, cond}
use borrow.Author.Tests.{lt-leb, ne_eqb}
use lib.Dec.{T, eqb}
use lib.Pow.{pow_pos}
use lib.Ieee.{nan, inf, binary64, odd, of_fields, of_bits, nan_bits, is_nan}
use lib.Ieee.Exact.{odd_sign}
use lib.Ieee.Bits.{nan_bits_is}
use Rattle.float_laws.proofs.Rounding.{odd_unsigned}
use Rattle.float_laws.proofs.Constants.{unsigned-not-nan}
use Rattle.model.specs.Numbers.{rooted, sqrt_of}
use Rattle.real_laws.proofs.Roots.Units.{sqrt_of_units}

-- ---- a pattern by its fields
fields : (b x t : ℕ) → b < 2 ^ 63 → b / 2 ^ 52 ≡ x → b % 2 ^ 52 ≡ t → of_bits binary64 b ≡ of_fields binary64 false x t
unfolding of_bits
fields b x t h p q =
    let e : b % 2 ^ 63 ≡ b = omega arith in
    ap (λ (s : Bool). of_fields binary64 s (b % 2 ^ 63 / 2 ^ 52) (b % 2 ^ 52)) (lt-leb (2 ^ 63) b h)
    ∙ ap (λ (y : ℕ). of_fields binary64 false (y / 2 ^ 52) (b % 2 ^ 52)) e
    ∙ ap (λ (y : ℕ). of_fields binary64 false y (b % 2 ^ 52)) p
    ∙ ap (λ (y : ℕ). of_fields binary64 false x y) q

normal : (x t : ℕ) → suc x < 2047 → of_fields binary64 false (suc x) t ≡ odd 53 false (2 ^ 52 + t) x 1074
unfolding of_fields
normal x t h = ap (λ (b : Bool). cond b (cond (eqb t 0) (inf false) nan) (odd 53 false (2 ^ 52 + t) x 1074)) (ne_eqb (suc x) 2047 (λ e. no x h e))
  where
    no : (x : ℕ) → suc x < 2047 → suc x ≡ 2047 → ⊥
    no x h e = omega arith

-- a field of 0, and one that is neither 0 nor the highest
pub read_low : (b : ℕ) → b / 2 ^ 52 ≡ 0 → of_bits binary64 b ≡ odd 53 false (b % 2 ^ 52) 0 1074
unfolding of_fields
read_low b e = fields b 0 (b % 2 ^ 52) (omega arith) e refl

pub read_normal : (b x t : ℕ) → b / 2 ^ 52 ≡ x + 1 → b % 2 ^ 52 ≡ t → x < 2046 → of_bits binary64 b ≡ odd 53 false (2 ^ 52 + t) x 1074
read_normal b x t e f h = fields b (suc x) t (omega arith) (e ∙ native.Mathlib.Numerals.add-one x) f ∙ normal x t (omega arith)

-- the pattern that is put together from a field and 53 digits: the leading digit adds one to the field
pub written : (k q : ℕ) → k < 2046 → 2 ^ 52 ≤ q → q < 2 ^ 53 → of_bits binary64 (k * 2 ^ 52 + q) ≡ odd 53 false q k 1074
written k q h lo hi =
    read_normal (k * 2 ^ 52 + q) k (q - 2 ^ 52) (omega arith) (omega arith) h ∙ ap (λ (z : ℕ). odd 53 false z k 1074) (back q lo)
  where
    back : (q : ℕ) → 2 ^ 52 ≤ q → 2 ^ 52 + (q - 2 ^ 52) ≡ q
    back q lo = omega arith

pub written_no_nan : (k q : ℕ) → k < 2046 → 2 ^ 52 ≤ q → q < 2 ^ 53 → T (not (nan_bits binary64 (k * 2 ^ 52 + q)))
written_no_nan k q h lo hi =
    subst (λ (b : Bool). T (not b)) (sym (nan_bits_is binary64 (k * 2 ^ 52 + q) ∙ ap is_nan (written k q h lo hi)))
    (unsigned-not-nan (odd 53 false q k 1074) (odd_unsigned 53 q k 1074))

-- ---- the root of what is read
pub sqrt_of_odd : (q k : ℕ) → 0 < q → sqrt_of (odd 53 false q k 1074) ≡ rooted (q * 2 ^ k * 2 ^ 1074)
sqrt_of_odd q k p = sqrt_of_units (odd 53 false q k 1074) (q * 2 ^ k) (odd_sign 53 false q k 1074) (mul-pos p (pow_pos k))
