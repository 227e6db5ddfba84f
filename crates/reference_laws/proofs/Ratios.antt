-- LAW: i / h, of whole numbers i up to h and h up to 199 and rounded once, lies within 0..1 and is strictly rising in i. For i < j the quotients lie at least
-- 1/199 apart, so that two doubles a / 1024 and (a + 1) / 1024 lie between them.
use Prim.Native.Nat.{ℕ, suc, ◌+◌, ◌-◌, ◌*◌, ◌/◌, ◌%◌, ◌^◌, ◌≤◌, ◌<◌, zero-le}
use mathlib.Core.Path.{◌≡◌, refl, ap, sym, subst, ◌∙◌}
use mathlib.Core.Bool.{false}
use native.Mathlib.Nat.{le_trans, le_of_lt, lt_of_le_of_lt, le_of_mul-le-mul_right, mul-le-mul_right, mul-lt-mul_of_pos_right, mul-pos, mul_assoc, mul_comm, sub-zero, suc-mul, div-add-mod', mod-lt}
use native.Mathlib.Omega.{arith}
use lib.Dec.{T, lit≤, lit<}
use lib.IntN.{pos}
use lib.Pow.{pow_pos}
use lib.Ieee.{Float, binary64, of_int, round, lt}
use lib.Ieee.Back.{round_whole}
use lib.Ieee.Exact.{round_exact}
use lib.Ieee.Fits.{div-fits}
use Rattle.model.specs.Reference.{ratio}
use Rattle.list_laws.proofs.Below.{neither_below}
use Rattle.float_laws.proofs.Units.{Counts}
use Rattle.float_laws.proofs.Order.{lt_irrefl, le_lt_trans, lt_le_trans, count→lt}
use Rattle.float_laws.proofs.Rounding.{Rounded, div_rounded, rounded-same, rounded_mono}
use Rattle.float_laws.proofs.Constants.{L, one}
use Rattle.float_laws.proofs.Arithmetic.{rounded-from-zero}
use Rattle.float_laws.proofs.FromZero.{Upto}
use Rattle.float_laws.proofs.InRange.{part-counts}

whole-counts : (k : ℕ) → k ≤ 199 → Counts binary64 (of_int binary64 (pos k)) (k * L) 0
unfolding of_int
whole-counts k h = part-counts 1 L refl (round binary64 false k 1) k (round_whole binary64 false k (le_trans h (lit≤ tt)))

-- ---- a / 1024, which is exact

abbrev step : ℕ → Float
step a = round binary64 false a 1024

step-rounded : (a : ℕ) → Rounded binary64 (step a) a 0 1024
step-rounded a = (false, a, refl, omega arith)

step_counts : (a : ℕ) → a ≤ 1024 → Counts binary64 (step a) (a * 2 ^ 1064) 0
step_counts a h =
    part-counts 1024 (2 ^ 1064) refl (step a) a
    (round_exact binary64 false a 1024 a 1064 (lit< tt) (lt_of_le_of_lt h (lit< tt)) (lt_of_le_of_lt (mul-le-mul_right (2 ^ 1064) h) (lit< tt)) (sym (mul_assoc a (2 ^ 1064) 1024)))

step-rising : (a : ℕ) → a < 1024 → T (lt (step a) (step (suc a)))
step-rising a h =
    count→lt binary64 (step a) (step (suc a)) (a * 2 ^ 1064) (suc a * 2 ^ 1064) (step_counts a (le_of_lt h)) (step_counts (suc a) h)
    (mul-lt-mul_of_pos_right (next a) (pow_pos 1064))
  where
    next : (a : ℕ) → a < suc a
    next a = omega arith

-- with q and r the quotient and the remainder of 1024 i by h, q + 1 and q + 2 parts of 1024 lie between i / h and j / h
record Between (h i j q : ℕ) : Type 0 where
  above : i * 1024 + 0 * h ≤ suc q * h + 0 * 1024
  below : suc (suc q) * h + 0 * 1024 ≤ j * 1024 + 0 * h
  inside : suc q < 1024

between : (h i j q r : ℕ) → 1 ≤ h → h ≤ 199 → i < j → j ≤ h → q * h + r ≡ i * 1024 → r < h → Between h i j q
between h i j q r some few less part e l =
    let u = suc-mul q h in
    let w = suc-mul (suc q) h in
    let top : suc (suc q) * h ≤ 1024 * h = omega arith in
    record { above = omega arith; below = omega arith; inside = le_of_mul-le-mul_right top some }

-- ---- i / h

module _ (h : ℕ) (some : 1 ≤ h) (few : h ≤ 199) where
  pub ratio-rounded : (i : ℕ) → i ≤ h → Rounded binary64 (ratio h i) i 0 h
  ratio-rounded i part =
      let p : 0 < h * L = mul-pos some (pow_pos 1074) in
      rounded-same binary64 (ratio h i) (i * L) 0 (h * L - 0) i 0 h (plain (h * L) p) some
      (div_rounded binary64 (of_int binary64 (pos i)) (of_int binary64 (pos h)) (i * L) 0 (h * L) 0 p (whole-counts i (le_trans part few)) (whole-counts h few)) (same i h L)
    where
      plain : (x : ℕ) → 0 < x → 0 < x - 0
      plain x h = omega arith

      same : (i h l : ℕ) → i * l * h + 0 * (h * l - 0) ≡ i * (h * l - 0) + 0 * h
      same i h l = let e : i * l * h ≡ i * (h * l) = mul_assoc i l h ∙ ap (λ (z : ℕ). i * z) (mul_comm l h) in rw sub-zero (omega arith)

  pub ratio-unit : (i : ℕ) → i ≤ h → Upto one (ratio h i)
  unfolding round
  ratio-unit i part =
      let r = ratio-rounded i part in
      record {
        held = div-fits binary64 (of_int binary64 (pos i)) (of_int binary64 (pos h));
        from = rounded-from-zero binary64 (ratio h i) i 0 h some r zero-le;
        to = rounded_mono binary64 (ratio h i) one i 0 h 1 0 1 some (lit< tt) r (false, 1, refl, refl) (omega arith);
      }

  pub ratio-rising : (i j : ℕ) → i < j → j ≤ h → T (lt (ratio h i) (ratio h j))
  ratio-rising i j less part =
      let q = i * 1024 / h in
      let b = between h i j q (i * 1024 % h) some few less part (div-add-mod' (i * 1024) h) (mod-lt (i * 1024) some) in
      let x = step (suc q) in
      let y = step (suc (suc q)) in
      le_lt_trans (ratio h i) x (ratio h j)
      (rounded_mono binary64 (ratio h i) x i 0 h (suc q) 0 1024 some (lit< tt) (ratio-rounded i (le_trans (le_of_lt less) part)) (step-rounded (suc q)) b.above)
      (lt_le_trans x y (ratio h j) (step-rising (suc q) b.inside)
      (rounded_mono binary64 y (ratio h j) (suc (suc q)) 0 1024 j 0 h (lit< tt) some (step-rounded (suc (suc q))) (ratio-rounded j part) b.below))

  -- so two coordinates with one quotient are one
  pub ratio-apart : (i j : ℕ) → i ≤ h → j ≤ h → ratio h i ≡ ratio h j → i ≡ j
  ratio-apart i j p q e = neither_below i j
      (λ l. lt_irrefl (ratio h j) (subst (λ x. T (lt x (ratio h j))) e (ratio-rising i j l q)))
      (λ l. lt_irrefl (ratio h i) (subst (λ x. T (lt x (ratio h i))) (sym e) (ratio-rising j i l p)))
