-- A double from 0 on that is below another times 1 - 2 ^ -30 has a root below the other's, also after both are rounded (`sqrt_apart`).
-- In numerals, 1073741824 is 2 ^ 30 and 1099511627776 is 2 ^ 40.
use mathlib.Core.Path.{◌≡◌, refl, sym, ap, ◌∙◌, subst}
use mathlib.Core.Logic.{inl, inr}
use Prim.Native.Nat.{ℕ, zero, suc, ◌+◌, ◌-◌, ◌*◌, ◌/◌, ◌^◌, ◌≤◌, ◌<◌}
use native.Mathlib.Nat.{le_trans, le_of_eq, le_of_lt, lt_of_lt_of_le, lt_of_not-le, not-le_of_lt, zero-mul, mul_assoc, mul_left_comm, mul-mul-mul_comm, mul-pos, mul-le-mul_left, mul-le-mul_right, mul-lt-mul_of_pos_right, zero-lt-suc, le-div_iff_mul-le, div-lt_iff_lt-mul}
use native.Mathlib.Omega.{arith}
use mathlib.Core.Bool.{false}
use lib.IntN.{negsuc}
use lib.Dec.{T}
use lib.Pow.{pow_pos}
use lib.Ieee.{Float, fin, binary64, size, fits, le, lt, mul}
use lib.Ieee.Digits.{size-lt}
use Rattle.float_laws.proofs.Units.{Counts, counts_finite, pow_between}
use Rattle.float_laws.proofs.Order.{lt→nle, lt→le, le_not_nan, le_lt_trans, count→lt}
use Rattle.float_laws.proofs.Arithmetic.{count, mul_le}
use Rattle.float_laws.proofs.Constants.{nought}
use Rattle.model.specs.Numbers.{near_root, dropped, sqrt_of}
use Rattle.real_laws.proofs.Nan.{rise, below_inf, finite_below}
use Rattle.real_laws.proofs.Roots.Whole.{near_root-near, square_mono}
use Rattle.real_laws.proofs.Roots.Scaled.{square_pow}
use Rattle.real_laws.proofs.Roots.Units.{root_units, root_units-zero, root_counts}
use Rattle.real_laws.proofs.Roots.Monotone.{kept_ge}

-- ---- the square of a root in units, beside the number: within one in 2 ^ 40, where digits are dropped

near_none : near_root 0 ≡ 0
unfolding near_root size
near_none = refl

lower : (Q q v : ℕ) → 2 ^ 52 * q ≤ Q → Q < v + q → 1099511627775 * Q ≤ 1099511627776 * v
lower Q q v a b = omega arith

higher : (Q q v : ℕ) → 2 ^ 52 ≤ q → 2 ^ 52 * q ≤ Q → v ≤ Q + q → 1099511627776 * (v + 1) ≤ 1099511627777 * Q
higher Q q v k a b = omega arith

module _ (n : ℕ) (h : 0 < dropped n) where
  abbrev k : ℕ
  k = dropped n

  abbrev U : ℕ
  U = 2 ^ (2 * k)

  abbrev v : ℕ
  v = n / U

  abbrev q : ℕ
  q = near_root v

  square : root_units n * root_units n ≡ q * q * U
  square = mul-mul-mul_comm q (2 ^ k) q (2 ^ k) ∙ ap (λ (x : ℕ). q * q * x) (sym (square_pow k))

  large : 2 ^ 52 * q ≤ q * q
  large = mul-le-mul_right q (kept_ge n h)

  some : 0 < v
  some = lt_of_not-le (λ (g : v ≤ 0).
      let e : v ≡ 0 = omega arith in
      not-le_of_lt (pow_pos 52) (subst (λ (x : ℕ). 2 ^ 52 ≤ x) near_none (subst (λ (x : ℕ). 2 ^ 52 ≤ near_root x) e (kept_ge n h))))

  not-above : 1099511627775 * (root_units n * root_units n) ≤ 1099511627776 * n
  not-above =
      let a = mul-le-mul_right U (lower (q * q) q v large ((near_root-near v).1 some)) in
      let b = mul-le-mul_left 1099511627776 ((le-div_iff_mul-le (pow_pos (2 * k))).0 (le_of_eq refl)) in
      subst (λ (x : ℕ). 1099511627775 * x ≤ 1099511627776 * n) (sym square)
      (le_trans (le_of_eq (sym (mul_assoc 1099511627775 (q * q) U))) (le_trans a (le_trans (le_of_eq (mul_assoc 1099511627776 v U)) b)))

  not-below : 1099511627776 * n ≤ 1099511627777 * (root_units n * root_units n)
  not-below =
      let a = mul-le-mul_right U (higher (q * q) q v (kept_ge n h) large (near_root-near v).0) in
      let b = mul-le-mul_left 1099511627776 (le_of_lt ((div-lt_iff_lt-mul (pow_pos (2 * k))).0 (one_more v))) in
      subst (λ (x : ℕ). 1099511627776 * n ≤ 1099511627777 * x) (sym square)
      (le_trans b (le_trans (le_of_eq (sym (mul_assoc 1099511627776 (v + 1) U))) (le_trans a (le_of_eq (mul_assoc 1099511627777 (q * q) U)))))
    where
      one_more : (v : ℕ) → v < v + 1
      one_more v = omega arith

-- ---- in units: a number that is not 0, times 2 ^ 1074
drops : (g : ℕ) → 0 < g → 0 < dropped (g * 2 ^ 1074)
drops g p = many (size (g * 2 ^ 1074)) (pow_between 1074 (size (g * 2 ^ 1074)) (g * 2 ^ 1074) (mul-le-mul_right (2 ^ 1074) p) (size-lt (g * 2 ^ 1074)))
  where
    many : (z : ℕ) → 1074 < z → 0 < (z - 105) / 2
    many z h = omega arith

clear : (a b x y : ℕ) → 1099511627775 * x ≤ 1099511627776 * a → 1099511627776 * b ≤ 1099511627777 * y → y ≤ x → 1073741824 * a < 1073741823 * b → ⊥
clear a b x y h k l m = omega arith

apart_units : (a b : ℕ) → 0 < dropped a → 0 < dropped b → 1073741824 * a < 1073741823 * b → root_units a < root_units b
apart_units a b A B h = lt_of_not-le (λ (l : root_units b ≤ root_units a).
    clear a b (root_units a * root_units a) (root_units b * root_units b) (not-above a A) (not-below b B) (square_mono (root_units b) (root_units a) l) h)

-- ---- floats

-- 1 - 2 ^ -30
abbrev pub nearly_one : Float
nearly_one = fin false 1073741823 (negsuc 29)

nearly_one-counts : Counts binary64 nearly_one (1073741823 * 2 ^ 1044) 0
nearly_one-counts = (1073741823 * 2 ^ 1044, refl, refl)

-- g is at least h * (1 - 2 ^ -30): over the units L, which are 2 ^ 30 times D
room : (g h D L : ℕ) → L ≡ 1073741824 * D → 1073741823 * h ≤ 1073741824 * g → h * (1073741823 * D) ≤ g * L
room g h D L e l =
    let a : 1073741823 * h * D ≤ 1073741824 * g * D = mul-le-mul_right D l in
    let b : h * (1073741823 * D) ≡ 1073741823 * h * D = simp (mul_assoc, mul_left_comm) refl in
    let c : g * L ≡ g * (1073741824 * D) = ap (λ (x : ℕ). g * x) e in
    let d : g * (1073741824 * D) ≡ 1073741824 * g * D = simp (mul_assoc, mul_left_comm) refl in
    omega arith

below : (s b : Float) (g h : ℕ) → T (fits binary64 s) → Counts binary64 s g 0 → Counts binary64 b h 0 → T (lt s (mul binary64 b nearly_one)) → 1073741824 * g < 1073741823 * h
below s b g h S a c l = lt_of_not-le (λ (k : 1073741823 * h ≤ 1073741824 * g).
    lt→nle s (mul binary64 b nearly_one) l
    (mul_le binary64 b nearly_one s h (1073741823 * 2 ^ 1044) g c nearly_one-counts S a (room g h (2 ^ 1044) (2 ^ 1074) refl k)))

scaled : (g h L : ℕ) → 1073741824 * g < 1073741823 * h → 0 < L → 1073741824 * (g * L) < 1073741823 * (h * L)
scaled g h L l p =
    let a = mul-lt-mul_of_pos_right l p in
    let b = mul_assoc 1073741824 g L in
    let c = mul_assoc 1073741823 h L in
    omega arith

some_units : (g h : ℕ) → 1073741824 * g < 1073741823 * h → 0 < h
some_units g h l = omega arith

apart-counts : (g h : ℕ) → 1073741824 * g < 1073741823 * h → root_units (g * 2 ^ 1074) < root_units (h * 2 ^ 1074)
apart-counts zero h l =
    let d = drops h (some_units 0 h l) in
    subst (λ (x : ℕ). x < root_units (h * 2 ^ 1074)) (sym (ap root_units (zero-mul (2 ^ 1074)) ∙ root_units-zero))
    (mul-pos (lt_of_lt_of_le (pow_pos 52) (kept_ge (h * 2 ^ 1074) d)) (pow_pos (dropped (h * 2 ^ 1074))))
apart-counts (suc g) h l =
    apart_units (suc g * 2 ^ 1074) (h * 2 ^ 1074) (drops (suc g) (zero-lt-suc g)) (drops h (some_units (suc g) h l)) (scaled (suc g) h (2 ^ 1074) l (pow_pos 1074))

-- THEOREM
pub sqrt_apart : (s b : Float) → T (fits binary64 s) → T (fits binary64 b) → T (le nought s) → T (lt s b) → T (lt s (mul binary64 b nearly_one)) → T (lt (sqrt_of s) (sqrt_of b))
sqrt_apart s b S B h j l =
    let n = lt→le nought b (le_lt_trans nought s b h j) in
    elim (rise s h) [
      | inl e ↦ absurd (lt→nle s b j (below_inf b s (le_not_nan nought b n).1 e))
      | inr F ↦
          let c = count binary64 s (record { held = S; finite = F }) h in
          let r = root_counts s c.0 c.1 in
          elim (rise b n) [
            | inl e ↦ subst (λ (v : Float). T (lt (sqrt_of s) (sqrt_of v))) (sym e) (unfold sqrt_of in finite_below (sqrt_of s) (counts_finite binary64 (sqrt_of s) (root_units (c.0 * 2 ^ 1074)) 0 r))
            | inr G ↦
                let d = count binary64 b (record { held = B; finite = G }) n in
                count→lt binary64 (sqrt_of s) (sqrt_of b) (root_units (c.0 * 2 ^ 1074)) (root_units (d.0 * 2 ^ 1074)) r (root_counts b d.0 d.1)
                (apart-counts c.0 d.0 (below s b c.0 d.0 S c.1 d.1 l))
          ]
    ]
