-- "low + draw × (high - low), each operation rounded. The result lies in low..high", for a draw k / 2 ^ 52 with k < 2 ^ 52 (`drawn`).
-- With D the exact difference and x its rounding, draw × x is at most the double below x, or x is at most D; either way it is at most a double c ≤ D
-- (`floor`), so that low plus it, rounded, is at most high.
use mathlib.Core.Path.{◌≡◌, refl, sym, ap, ◌∙◌, subst}
use mathlib.Core.Logic.{inl, inr}
use Prim.Native.Nat.{ℕ, ◌+◌, ◌-◌, ◌*◌, ◌/◌, ◌^◌, ◌≤◌, ◌<◌, zero-le}
use native.Mathlib.Nat.{le_trans, le_of_eq, le_of_lt, lt_of_le_of_lt, eq-or-lt_of_le, eq-zero-or-pos, zero-add, one-mul, mul-one, mul_comm, mul_assoc, mul_right_comm, mul-pos, mul-le-mul, mul-le-mul_left, mul-le-mul_right, add-mul, mul-add, add-le-add, div-one, div-mul-le_self, div-lt_iff_lt-mul}
use native.Mathlib.Omega.{arith}
use mathlib.Core.Bool.{true, false, true≢false}
use lib.Dec.{T, lit<}
use lib.Pow.{pow_pos, pow-add}
use lib.Ieee.{Float, nan, inf, fin, binary64, up, down, size, le, add, sub, mul, round, fits}
use lib.Ieee.Fits.{kept-lt, round-fits, mul-fits}
use lib.Ieee.Exact.{HasValue, round_exact}
use Rattle.float_laws.proofs.Units.{Number, Counts, top_digits, le→counts, le→count, counts_of, counts_finite}
use Rattle.float_laws.proofs.Rounding.{Rounded, rounded_shift, rounded_le, le_rounded, add-rounded, sub_rounded, between_finite, value-count}
use Rattle.float_laws.proofs.Constants.{L, nought, exp2, exp2-counts, minus_exp2}
use Rattle.float_laws.proofs.Arithmetic.{scaled, rounded-from-zero, sub_from_zero, count, mul-count, mul_le}
use Rattle.float_laws.proofs.FromZero.{sub_number}

-- the first count that is no double
abbrev Overflow : ℕ
Overflow = 2 ^ (1074 + 1024)

-- ---- a count of at most 53 digits and zeros is a float
abbrev Held : ℕ → Type 0
Held c = (y : Float) × T (fits binary64 y) × Counts binary64 y c 0

held_lt : (q j : ℕ) → q < 2 ^ 53 → q * 2 ^ j < Overflow → Held (q * 2 ^ j)
held_lt q j h t =
    let y = round binary64 false (q * 2 ^ j) L in
    (y, round-fits binary64 false (q * 2 ^ j) L, value-count binary64 y (q * 2 ^ j) (round_exact binary64 false (q * 2 ^ j) L q j (pow_pos 1074) h t refl))

held : (q j : ℕ) → q ≤ 2 ^ 53 → q * 2 ^ j < Overflow → Held (q * 2 ^ j)
held q j h t = elim (eq-or-lt_of_le h) [
  | inl e ↦
      let same : 1 * 2 ^ (53 + j) ≡ q * 2 ^ j = one-mul (2 ^ (53 + j)) ∙ pow-add 2 53 j ∙ ap (λ (z : ℕ). z * 2 ^ j) (sym e) in
      subst Held same (held_lt 1 (53 + j) (lit< tt) (subst (λ (z : ℕ). z < Overflow) (sym same) t))
  | inr l ↦ held_lt q j l t
]

-- ---- x is D / L rounded: with e and c two counts that floats hold, c ≤ D ≤ e, or c = D = e
-- D rounds to at most the next float above, and that float times (2 ^ 52 - 1) / 2 ^ 52 is at most the float below
step : (k q W : ℕ) → k + 1 ≤ W → W ≤ q + 1 → k * (q + 1) ≤ q * W
step k q W h g =
    let a : k * (q + 1) ≡ k * q + k = mul-add k q 1 ∙ ap (λ (z : ℕ). k * q + z) (mul-one k) in
    let b : q * (k + 1) ≡ q * k + q = mul-add q k 1 ∙ ap (λ (z : ℕ). q * k + z) (mul-one q) in
    let c : q * (k + 1) ≤ q * W = mul-le-mul_left q h in
    let d = mul_comm k q in
    omega arith

scale_step : (k dr q j : ℕ) → k + 1 ≤ 2 ^ 52 → 2 ^ 52 ≤ q → dr ≤ (q + 1) * 2 ^ j → k * 2 ^ 1022 * dr ≤ q * 2 ^ j * L
scale_step k dr q j h g d =
    let a : k * (q + 1) ≤ q * 2 ^ 52 = step k q (2 ^ 52) h (omega arith) in
    let b : k * dr ≤ k * ((q + 1) * 2 ^ j) = mul-le-mul_left k d in
    let c : k * ((q + 1) * 2 ^ j) ≡ k * (q + 1) * 2 ^ j = sym (mul_assoc k (q + 1) (2 ^ j)) in
    let e : k * (q + 1) * 2 ^ j ≤ q * 2 ^ 52 * 2 ^ j = mul-le-mul_right (2 ^ j) a in
    let all : k * dr ≤ q * 2 ^ 52 * 2 ^ j = le_trans b (le_trans (le_of_eq c) e) in
    le_trans (le_of_eq (mul_right_comm k (2 ^ 1022) dr)) (le_trans (mul-le-mul_right (2 ^ 1022) all) (le_of_eq (last q (2 ^ 52) (2 ^ j) (2 ^ 1022) L refl)))
  where
    last : (q a b c l : ℕ) → l ≡ a * c → q * a * b * c ≡ q * b * l
    last q a b c l e = ap (λ (z : ℕ). z * c) (mul_right_comm q a b) ∙ mul_assoc (q * b) a c ∙ ap (λ (z : ℕ). q * b * z) (sym e)

scale_flat : (k dr c : ℕ) → k ≤ 2 ^ 52 → dr ≤ c → k * 2 ^ 1022 * dr ≤ c * L
scale_flat k dr c h d = le_trans (mul-le-mul (mul-le-mul_right (2 ^ 1022) h) d) (le_of_eq (mul_comm L c))

-- what is known of D and its rounding x: x's count is dr
module _ (D dr : ℕ) (x : Float) (r : Rounded binary64 x D 0 L) (i : Counts binary64 x dr 0) (big : D + D < Overflow) where
  -- a held count that is not below D is not below dr
  above : (e : ℕ) → D ≤ e → Held e → dr ≤ e
  above e h y =
      le→count binary64 x y.0 dr e i y.2 (rounded_le binary64 x y.0 D 0 L e 0 (pow_pos 1074) r y.1 y.2 (scaled D 0 e 0 L (shape D e h)))
    where
      shape : (D e : ℕ) → D ≤ e → D + 0 ≤ e + 0
      shape D e h = omega arith

  under : (c : ℕ) → c ≤ D → c < Overflow
  under c h = lt_of_le_of_lt (le_trans h (double D)) big
    where
      double : (a : ℕ) → a ≤ a + a
      double a = omega arith

  -- a held count c ≤ D that k / 2 ^ 52 of dr does not pass
  abbrev Floor : ℕ → Type 0
  Floor k = (c : ℕ) × (c ≤ D) × Held c × (k * 2 ^ 1022 * dr ≤ c * L)

  -- D has at most 53 digits, and is its own rounding
  flat : (k j : ℕ) → k < 2 ^ 52 → D / 2 ^ j < 2 ^ 53 → j ≡ 0 → Floor k
  flat k j h s z =
      let c = D / 2 ^ j * 2 ^ j in
      let same : c ≡ D = ap (λ (i : ℕ). D / 2 ^ i * 2 ^ i) z ∙ mul-one (D / 1) ∙ div-one D in
      let y = held_lt (D / 2 ^ j) j s (under c (le_of_eq same)) in
      (c, le_of_eq same, y, scale_flat k dr c (le_of_lt h) (above c (le_of_eq (sym same)) y))

  -- or more, and then its first 53 digits are at least 2 ^ 52
  steep : (k j : ℕ) → k < 2 ^ 52 → D / 2 ^ j < 2 ^ 53 → 2 ^ 52 ≤ D / 2 ^ j → Floor k
  steep k j h s q-ge =
      let q = D / 2 ^ j in
      let c = q * 2 ^ j in
      let c-le : c ≤ D = div-mul-le_self D (2 ^ j) in
      let lt : D < (q + 1) * 2 ^ j = (div-lt_iff_lt-mul (pow_pos j)).0 (more q) in
      let next : (q + 1) * 2 ^ j ≡ c + 2 ^ j = add-mul q 1 (2 ^ j) ∙ ap (λ (z : ℕ). c + z) (one-mul (2 ^ j)) in
      let j-le : 2 ^ j ≤ D = le_trans (le_of_eq (sym (one-mul (2 ^ j)))) (le_trans (mul-le-mul_right (2 ^ j) (le_trans (pow_pos 52) q-ge)) c-le) in
      let e-lt : (q + 1) * 2 ^ j < Overflow = lt_of_le_of_lt (le_trans (le_of_eq next) (add-le-add c-le j-le)) big in
      let y = held q j (le_of_lt s) (under c c-le) in
      let w = held (q + 1) j (more_le q s) e-lt in
      (c, c-le, y, scale_step k dr q j (more_le k h) q-ge (above ((q + 1) * 2 ^ j) (le_of_lt lt) w))
    where
      more : (q : ℕ) → q < q + 1
      more q = omega arith

      more_le : {m : ℕ} (q : ℕ) → q < m → q + 1 ≤ m
      more_le {m} q h = omega arith

  floor : (k : ℕ) → k < 2 ^ 52 → Floor k
  floor k h = elim (eq-zero-or-pos (size D - 53)) [
    | inl z ↦ flat k (size D - 53) h (kept-lt 53 D) z
    | inr p ↦ steep k (size D - 53) h (kept-lt 53 D) (top_digits D 52 (size D - 53) (omega arith))
  ]

-- ---- the law
sums : (pl nl ph nh D t : ℕ) → pl + nh ≤ ph + nl → D ≡ ph + nl - (pl + nh) → t ≤ D → pl + t + nh ≤ ph + (nl + 0)
sums pl nl ph nh D t h e g = omega arith

far : (pl nl ph nh B C D : ℕ) → C ≡ B + B + (B + B) → ph + 0 ≤ B + nh → 0 + nl ≤ pl + B → D ≡ ph + nl - (pl + nh) → D + D ≤ C
far pl nl ph nh B C D e h k d = omega arith

module _ (lo hi d : Float) (k : ℕ) (LO : Number binary64 lo) (HI : Number binary64 hi)
    (ordered : T (le lo hi)) (low_end : T (le (minus_exp2 1000) lo)) (high_end : T (le hi (exp2 1000)))
    (K : k < 2 ^ 52) (is-draw : Counts binary64 d (k * 2 ^ 1022) 0) where
  pub drawn : T (le lo (add binary64 lo (mul binary64 d (sub binary64 hi lo)))) × T (le (add binary64 lo (mul binary64 d (sub binary64 hi lo))) hi)
  drawn =
      let f = binary64 in
      let o = counts_of f lo LO in
      let w = counts_of f hi HI in
      let pl = o.0 in
      let nl = o.1 in
      let ph = w.0 in
      let nh = w.1 in
      let B = 2 ^ 1000 * 2 ^ 1074 in
      let order : pl + nh ≤ ph + nl = le→counts f lo hi pl nl ph nh o.2 w.2 ordered in
      let D = ph + nl - (pl + nh) in
      let x = sub f hi lo in
      let r = rounded_shift f x (ph + nl) (nh + pl) L D 0 (sub_rounded f hi lo ph nh pl nl w.2 o.2) (dif pl nl ph nh order) in
      let dr = count f x (sub_number hi lo HI LO high_end low_end ordered) (sub_from_zero f hi lo HI LO ordered) in
      let big : D + D < Overflow = lt_of_le_of_lt (far pl nl ph nh B (2 ^ 1002 * 2 ^ 1074) D refl (le→counts f hi (exp2 1000) ph nh B 0 w.2 (exp2-counts 1000) high_end) (le→counts f (minus_exp2 1000) lo 0 B pl nl (B, refl, refl) o.2 low_end) refl) (lit< tt) in
      let fl = floor D dr.0 x r dr.1 big k K in
      let y = fl.2 in
      let t = mul f d x in
      let low-t : T (le nought t) = rounded-from-zero f t (k * 2 ^ 1022 * dr.0) 0 (L * L) (mul-pos (pow_pos 1074) (pow_pos 1074)) (mul-count f d x (k * 2 ^ 1022) dr.0 is-draw dr.1) zero-le in
      let high-t : T (le t y.0) = mul_le f d x y.0 (k * 2 ^ 1022) dr.0 fl.0 is-draw dr.1 y.1 y.2 fl.3 in
      let FT = between_finite nought t y.0 tt (counts_finite f y.0 fl.0 0 y.2) low-t high-t in
      let tc = count f t (record { held = mul-fits f d x; finite = FT }) low-t in
      let t-le = le→count f t y.0 tc.0 fl.0 tc.1 y.2 high-t in
      let s = add-rounded f lo t pl nl tc.0 0 o.2 tc.1 in (
        le_rounded f (add f lo t) lo (pl + tc.0) (nl + 0) L pl nl (pow_pos 1074) s LO.held o.2 (scaled pl (nl + 0) (pl + tc.0) nl L (grows pl nl tc.0)),
        rounded_le f (add f lo t) hi (pl + tc.0) (nl + 0) L ph nh (pow_pos 1074) s HI.held w.2 (scaled (pl + tc.0) nh ph (nl + 0) L (sums pl nl ph nh D tc.0 order refl (le_trans {n = tc.0} t-le fl.1))),
      )
    where
      dif : (pl nl ph nh : ℕ) → pl + nh ≤ ph + nl → ph + nl + 0 ≡ ph + nl - (pl + nh) + (nh + pl)
      dif pl nl ph nh h = omega arith

      grows : (p n t : ℕ) → p + (n + 0) ≤ p + t + n
      grows p n t = omega arith

-- ---- a value in whole parts of p, counted in the units of 2 ^ -1074: q of them make a part

pub part-counts : (p q : ℕ) → L ≡ p * q → (x : Float) (k : ℕ) → HasValue x false k p → Counts binary64 x (k * q) 0
part-counts p q s nan k h = absurd h
part-counts p q s (inf b) k h = absurd h
part-counts p q s (fin true m e) k h = absurd (true≢false h.0)
part-counts p q s (fin false m e) k h = (k * q, up_by (m * up e) (down e) k p q L s h.1, sym (zero-add (k * q)))
  where
    up_by : (a d k p q l : ℕ) → l ≡ p * q → a * p ≡ k * d → a * l ≡ k * q * d
    up_by a d k p q l e h = ap (λ (z : ℕ). a * z) e ∙ sym (mul_assoc a p q) ∙ ap (λ (z : ℕ). z * q) h ∙ mul_right_comm k d q

-- k / 2 ^ 52, for a k below 2 ^ 52, is exact
pub draw_counts : (k : ℕ) → k < 2 ^ 52 → Counts binary64 (round binary64 false k (2 ^ 52)) (k * 2 ^ 1022) 0
draw_counts k h =
    part-counts (2 ^ 52) (2 ^ 1022) refl (round binary64 false k (2 ^ 52)) k
    (round_exact binary64 false k (2 ^ 52) k 1022 (lit< tt) (lt_of_le_of_lt (le_of_lt h) (lit< tt)) (lt_of_le_of_lt (mul-le-mul_right (2 ^ 1022) (le_of_lt h)) (lit< tt))
    (sym (mul_assoc k (2 ^ 1022) (2 ^ 52))))
