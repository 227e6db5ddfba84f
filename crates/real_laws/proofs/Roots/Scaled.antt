-- How `root_of_units` finds the digits that the root keeps: m * 2 ^ k * 2 ^ 1074 is a * 2 ^ (2 * h), for an a of 53 or 54 digits, and `rooted` cuts it to a * 2 ^ 52.
use mathlib.Core.Path.{◌≡◌, sym, ap, ◌∙◌, subst}
use Prim.Native.Nat.{ℕ, zero, suc, ◌+◌, ◌-◌, ◌*◌, ◌/◌, ◌%◌, ◌^◌, ◌≤◌, ◌<◌}
use native.Mathlib.Nat.{le_trans, le_of_eq, lt_of_lt_of_le, mul_assoc, mul-le-mul_right, mul-div_cancel}
use native.Mathlib.Omega.{arith}
use mathlib.Core.Bool.{false}
use lib.Dec.{lit≤}
use lib.Pow.{pow-add, pow_pos, shl_lt}
use lib.Count.{count_leading_zeros, leading_top}
use lib.Ieee.{size, odd}
use lib.Ieee.Digits.{size-lt, size-le}
use Rattle.float_laws.proofs.Units.{pow_between}
use Rattle.model.specs.Numbers.{near_root, dropped, rooted}
use Rattle.real_laws.proofs.Roots.Whole.{near_root-near, near_ge, near_lt}

-- ---- the shift
-- a number m of at most 53 digits has z leading zeros in a word: 11 at least. Shifted up by z - 11 it has 53 digits, and by one more 54
pub record Shift (m z : ℕ) : Type 0 where
  pub least : 11 ≤ z
  pub most : z ≤ 63
  pub low : 2 ^ 52 ≤ m * 2 ^ (z - 11)
  pub high : m * 2 ^ (z - 11) < 2 ^ 53

pub shift : (m : ℕ) → 0 < m → m < 2 ^ 53 → Shift m (count_leading_zeros 64 m)
shift m p h =
    let t = leading_top 64 m p (lt_of_lt_of_le h (lit≤ tt)) in
    let j = t.0 in
    let z = count_leading_zeros 64 m in
    let j-lt : j < 53 = pow_between j 53 m t.2 h in
    let e : z + suc j ≡ 64 = t.1 in
    record {
      least = omega arith;
      most = omega arith;
      low = le_trans (le_of_eq (ap (λ (x : ℕ). 2 ^ x) (sums z j e j-lt) ∙ pow-add 2 j (z - 11))) (mul-le-mul_right (2 ^ (z - 11)) t.2);
      high = lt_of_lt_of_le (shl_lt (suc j) (z - 11) t.3) (le_of_eq (ap (λ (x : ℕ). 2 ^ x) (sums' z j e j-lt)));
    }
  where
    sums : (z j : ℕ) → z + suc j ≡ 64 → j < 53 → 52 ≡ j + (z - 11)
    sums z j e l = omega arith

    sums' : (z j : ℕ) → z + suc j ≡ 64 → j < 53 → suc j + (z - 11) ≡ 53
    sums' z j e l = omega arith

-- ---- the cut
half : (z h : ℕ) → 26 ≤ h → 52 + 2 * h < z → z ≤ 54 + 2 * h → (z - 105) / 2 ≡ h - 26
half z h a b c = omega arith

dropped_is : (a h : ℕ) → 2 ^ 52 ≤ a → a < 2 ^ 54 → 26 ≤ h → dropped (a * 2 ^ (2 * h)) ≡ h - 26
dropped_is a h lo hi l =
    half (size (a * 2 ^ (2 * h))) h l
    (pow_between (52 + 2 * h) (size (a * 2 ^ (2 * h))) (a * 2 ^ (2 * h)) (le_trans (le_of_eq (pow-add 2 52 (2 * h))) (mul-le-mul_right (2 ^ (2 * h)) lo)) (size-lt (a * 2 ^ (2 * h))))
    (size-le (a * 2 ^ (2 * h)) (54 + 2 * h) (shl_lt 54 (2 * h) hi))

pub cut : (a h : ℕ) → 26 ≤ h → a * 2 ^ (2 * h) ≡ a * 2 ^ 52 * 2 ^ (2 * (h - 26))
cut a h l = ap (λ (x : ℕ). a * 2 ^ x) (omega arith) ∙ ap (λ (x : ℕ). a * x) (pow-add 2 52 (2 * (h - 26))) ∙ sym (mul_assoc a (2 ^ 52) (2 ^ (2 * (h - 26))))

cut_is : (a h : ℕ) → 26 ≤ h → a * 2 ^ (2 * h) / 2 ^ (2 * (h - 26)) ≡ a * 2 ^ 52
cut_is a h l = ap (λ (x : ℕ). x / 2 ^ (2 * (h - 26))) (cut a h l) ∙ mul-div_cancel (a * 2 ^ 52) (pow_pos (2 * (h - 26)))

-- a power of two, squared
pub square_pow : (k : ℕ) → 2 ^ (2 * k) ≡ 2 ^ k * 2 ^ k
square_pow k = ap (λ (x : ℕ). 2 ^ x) (omega arith) ∙ pow-add 2 k k

-- what is made of the root of the digits that are kept, and of the pairs that are dropped
pub cut_by : {A : Type 0} (F : ℕ → ℕ → A) (a h : ℕ) → 2 ^ 52 ≤ a → a < 2 ^ 54 → 26 ≤ h
    → F (near_root (a * 2 ^ (2 * h) / 2 ^ (2 * dropped (a * 2 ^ (2 * h))))) (dropped (a * 2 ^ (2 * h))) ≡ F (near_root (a * 2 ^ 52)) (h - 26)
cut_by F a h lo hi l =
    ap (λ (k : ℕ). F (near_root (a * 2 ^ (2 * h) / 2 ^ (2 * k))) k) (dropped_is a h lo hi l)
    ∙ ap (λ (x : ℕ). F (near_root x) (h - 26)) (cut_is a h l)

rooted_is : (a h : ℕ) → 2 ^ 52 ≤ a → a < 2 ^ 54 → 26 ≤ h → rooted (a * 2 ^ (2 * h)) ≡ odd 53 false (near_root (a * 2 ^ 52)) (h - 26) 1074
unfolding rooted
rooted_is a h lo hi l = cut_by (λ q k. odd 53 false q k 1074) a h lo hi l

-- ---- what it is that is cut
pub scaled : (m k t h : ℕ) → t + 2 * h ≡ k + 1074 → m * 2 ^ k * 2 ^ 1074 ≡ m * 2 ^ t * 2 ^ (2 * h)
scaled m k t h e =
    mul_assoc m (2 ^ k) (2 ^ 1074)
    ∙ ap (λ (x : ℕ). m * x) (sym (pow-add 2 k 1074) ∙ ap (λ (x : ℕ). 2 ^ x) (sym e) ∙ pow-add 2 t (2 * h))
    ∙ sym (mul_assoc m (2 ^ t) (2 ^ (2 * h)))

-- ---- the root of those digits has 53 digits. It is below 2 ^ 53 since a is even where it has 54 digits
pub root_low : (a : ℕ) → 2 ^ 52 ≤ a → 2 ^ 52 ≤ near_root (a * 2 ^ 52)
root_low a h = near_ge (a * 2 ^ 52) (near_root (a * 2 ^ 52)) (2 ^ 52) (near_root-near (a * 2 ^ 52)) (mul-le-mul_right (2 ^ 52) h)

pub root_high : (a : ℕ) → 2 ^ 52 ≤ a → a + 2 ≤ 2 ^ 54 → near_root (a * 2 ^ 52) < 2 ^ 53
root_high a h g = near_lt (a * 2 ^ 52) (near_root (a * 2 ^ 52)) (2 ^ 53) (near_root-near (a * 2 ^ 52)) (omega arith) (omega arith) (omega arith)

-- ---- all of it, at the numbers that `root_of_units` works out
twofold : (y r : ℕ) → 2 ^ 52 ≤ y → y < 2 ^ 53 → r < 2 → (2 ^ 52 ≤ y * 2 ^ r) × (y * 2 ^ r + 2 ≤ 2 ^ 54)
twofold y zero a b c = (omega arith, omega arith)
twofold y (suc zero) a b c = (omega arith, omega arith)
twofold y (suc (suc r)) a b c = absurd (none r c)
  where
    none : (r : ℕ) → suc (suc r) < 2 → ⊥
    none r h = omega arith

-- e is the exponent, t the shift, a the digits
abbrev pub exponent : ℕ → ℕ → ℕ
exponent m k = k + 1074 - (count_leading_zeros 64 m - 11)

abbrev pub moved : ℕ → ℕ → ℕ
moved m k = count_leading_zeros 64 m - 11 + exponent m k % 2

pub record Parts (m k : ℕ) : Type 0 where
  pub least : 11 ≤ count_leading_zeros 64 m
  pub most : count_leading_zeros 64 m ≤ 63
  pub shifted : (m * 2 ^ moved m k) % 2 ^ 64 ≡ m * 2 ^ moved m k
  pub low : 2 ^ 52 ≤ m * 2 ^ moved m k
  pub high : m * 2 ^ moved m k + 2 ≤ 2 ^ 54
  pub root_low : 2 ^ 52 ≤ near_root (m * 2 ^ moved m k * 2 ^ 52)
  pub root_high : near_root (m * 2 ^ moved m k * 2 ^ 52) < 2 ^ 53
  pub enough : 26 ≤ exponent m k / 2
  pub whole : m * 2 ^ k * 2 ^ 1074 ≡ m * 2 ^ moved m k * 2 ^ (2 * (exponent m k / 2))
  pub is : rooted (m * 2 ^ k * 2 ^ 1074) ≡ odd 53 false (near_root (m * 2 ^ moved m k * 2 ^ 52)) (exponent m k / 2 - 26) 1074

pub parts : (m k : ℕ) → 0 < m → m < 2 ^ 53 → Parts m k
parts m k p h =
    let w = shift m p h in
    let z = count_leading_zeros 64 m in
    let e = exponent m k in
    let t = moved m k in
    let r-lt : e % 2 < 2 = omega arith in
    let b = twofold (m * 2 ^ (z - 11)) (e % 2) w.low w.high r-lt in
    let s : m * 2 ^ t ≡ m * 2 ^ (z - 11) * 2 ^ (e % 2) = ap (λ (x : ℕ). m * x) (pow-add 2 (z - 11) (e % 2)) ∙ sym (mul_assoc m (2 ^ (z - 11)) (2 ^ (e % 2))) in
    let lo : 2 ^ 52 ≤ m * 2 ^ t = subst (λ (x : ℕ). 2 ^ 52 ≤ x) (sym s) b.0 in
    let hi : m * 2 ^ t + 2 ≤ 2 ^ 54 = subst (λ (x : ℕ). x + 2 ≤ 2 ^ 54) (sym s) b.1 in
    record {
      least = w.least;
      most = w.most;
      shifted = within (m * 2 ^ t) hi;
      low = lo;
      high = hi;
      root_low = root_low (m * 2 ^ t) lo;
      root_high = root_high (m * 2 ^ t) lo hi;
      enough = enough z k w.most;
      whole = scaled m k t (e / 2) (even z k w.least w.most);
      is = ap rooted (scaled m k t (e / 2) (even z k w.least w.most)) ∙ rooted_is (m * 2 ^ t) (e / 2) lo (below (m * 2 ^ t) hi) (enough z k w.most);
    }
  where
    within : (a : ℕ) → a + 2 ≤ 2 ^ 54 → a % 2 ^ 64 ≡ a
    within a h = omega arith

    below : (a : ℕ) → a + 2 ≤ 2 ^ 54 → a < 2 ^ 54
    below a h = omega arith

    even : (z k : ℕ) → 11 ≤ z → z ≤ 63 → z - 11 + (k + 1074 - (z - 11)) % 2 + 2 * ((k + 1074 - (z - 11)) / 2) ≡ k + 1074
    even z k a b = omega arith

    enough : (z k : ℕ) → z ≤ 63 → 26 ≤ (k + 1074 - (z - 11)) / 2
    enough z k b = omega arith
