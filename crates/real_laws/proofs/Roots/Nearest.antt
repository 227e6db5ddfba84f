-- No double is nearer to the exact root than `sqrt_of` is. Of a double x above 0, of r = `sqrt_of x` and of any finite double y from 0 on, counted in units as X, R and Y
-- (`in_units`), the exact root is the root of X * 2 ^ 1074 units. Where y is above r, the root is not beyond the middle of the two, (R + Y) / 2; where y is below r, it is not
-- before the middle. Squared and without fractions: 4 * (X * 2 ^ 1074) ≤ (R + Y) * (R + Y), and the other way round.
use mathlib.Core.Path.{◌≡◌, refl, sym, ap, ◌∙◌, subst}
use Prim.Native.Nat.{ℕ, zero, suc, ◌+◌, ◌-◌, ◌*◌, ◌/◌, ◌^◌, ◌≤◌, ◌<◌}
use native.Mathlib.Nat.{le_trans, le_of_eq, le_of_lt, mul-pos, lt_of_not-le, lt_of_mul-lt-mul_right, one-mul, mul_assoc, mul-mul-mul_comm, add-mul, mul-le-mul_left, mul-le-mul_right}
use native.Mathlib.Omega.{arith}
use mathlib.Core.Bool.{true, false, true≢false}
use lib.IntN.{ℤ}
use lib.Dec.{T, ltb→lt, eqb→eq}
use lib.Pow.{pow-add, pow_pos, shl_lt}
use lib.Ieee.{Float, nan, inf, fin, binary64, up, down, fits, le, lt}
use lib.Ieee.Exact.{HasValue}
use lib.Ieee.Scale.{finite}
use lib.Ieee.Positive.{positive}
use Rattle.float_laws.proofs.Units.{pow_between, multiple, zero_exponent, placed}
use Rattle.float_laws.proofs.Order.{lt→count}
use Rattle.float_laws.proofs.Rounding.{unsigned, value-count}
use Rattle.float_laws.proofs.Constants.{nought, unsigned-from}
use Rattle.list_laws.proofs.Below.{by_lt}
use Rattle.model.specs.Numbers.{near_root, unit_count, sqrt_of}
use Rattle.real_laws.proofs.Roots.Whole.{IsNear, near_root-near, square_suc, square-twice, square_mono}
use Rattle.real_laws.proofs.Roots.Scaled.{parts, exponent, moved, cut, cut_by, square_pow}
use Rattle.real_laws.proofs.Roots.Units.{units_of_is, root_units, root_valued}

-- ---- a number of at most 53 digits, moved up, that is 2 ^ 52 * 2 ^ k at least is a multiple of 2 ^ k
reaches : (p j k : ℕ) → p < 2 ^ 53 → 2 ^ 52 * 2 ^ k ≤ p * 2 ^ j → k ≤ j
reaches p j k h l = let z = pow_between (52 + k) (53 + j) (p * 2 ^ j) (le_trans (le_of_eq (pow-add 2 52 k)) l) (shl_lt 53 j h) in omega arith

-- ---- in whole numbers: q is nearest to the root of n, of 105 or 106 digits; u is 2 ^ k; the double y is p * 2 ^ j
square-mul : (a u : ℕ) → a * u * (a * u) ≡ a * a * (u * u)
square-mul a u = mul-mul-mul_comm a u a u

-- a bound of a square, in parts of u
squared : (a n u : ℕ) → a * a ≤ 4 * n → a * u * (a * u) ≤ 4 * (n * (u * u))
squared a n u h = le_trans (le_of_eq (square-mul a u)) (le_trans (mul-le-mul_right (u * u) h) (le_of_eq (mul_assoc 4 n (u * u))))

-- y above: y is at least one multiple of u further on
pub above : (n q k p j : ℕ) → IsNear n q → 2 ^ 52 ≤ q → p < 2 ^ 53 → q * 2 ^ k < p * 2 ^ j → 4 * (n * (2 ^ k * 2 ^ k)) ≤ (q * 2 ^ k + p * 2 ^ j) * (q * 2 ^ k + p * 2 ^ j)
above n q k p j near keeps few h =
    let u = 2 ^ k in
    let k-le : k ≤ j = reaches p j k few (le_trans (mul-le-mul_right u keeps) (le_of_lt h)) in
    let w = p * 2 ^ (j - k) in
    let e : p * 2 ^ j ≡ w * u = multiple p j k k-le in
    let l : q < w = lt_of_mul-lt-mul_right u (subst (λ (x : ℕ). q * u < x) e h) in
    let s : q * u + p * 2 ^ j ≡ (q + w) * u = ap (λ (x : ℕ). q * u + x) e ∙ sym (add-mul q w u) in
    let t : 4 * n ≤ (q + w) * (q + w) = squares n q w near.0 l in
    subst (λ (x : ℕ). 4 * (n * (u * u)) ≤ x * x) (sym s)
    (le_trans (le_of_eq (sym (mul_assoc 4 n (u * u)))) (le_trans (mul-le-mul_right (u * u) t) (le_of_eq (sym (square-mul (q + w) u)))))
  where
    squares : (n q w : ℕ) → n ≤ q * q + q → q < w → 4 * n ≤ (q + w) * (q + w)
    squares n q w a b =
        let x : (q + q + 1) * (q + q + 1) ≤ (q + w) * (q + w) = square_mono (q + q + 1) (q + w) (omega arith) in
        let y = square_suc (q + q) in
        let z = square-twice q in
        omega arith

-- y below, and at least one multiple of u before q * u, for q = z + 1
below_by : (n z u y : ℕ) → IsNear n (z + 1) → 0 < n → y ≤ z * u → ((z + 1) * u + y) * ((z + 1) * u + y) ≤ 4 * (n * (u * u))
below_by n z u y near N h =
    let a : (z + 1) * u ≡ z * u + u = add-mul z 1 u ∙ ap (λ (x : ℕ). z * u + x) (one-mul u) in
    let b : (z + z + 1) * u ≡ z * u + z * u + u = add-mul (z + z) 1 u ∙ ap (λ (x : ℕ). (z + z) * u + x) (one-mul u) ∙ ap (λ (x : ℕ). x + u) (add-mul z z u) in
    let c : (z + 1) * u + y ≤ (z + z + 1) * u = omega arith in
    le_trans (square_mono ((z + 1) * u + y) ((z + z + 1) * u) c) (squared (z + z + 1) n u (squares n z (near.1 N)))
  where
    squares : (n z : ℕ) → (z + 1) * (z + 1) < n + (z + 1) → (z + z + 1) * (z + z + 1) ≤ 4 * n
    squares n z h =
        let x = square_suc z in
        let y = square_suc (z + z) in
        let w = square-twice z in
        omega arith

-- the root is not before q
below_down : (n q u y : ℕ) → q * q ≤ n → y < q * u → (q * u + y) * (q * u + y) ≤ 4 * (n * (u * u))
below_down n q u y l h =
    let e : (q + q) * u ≡ q * u + q * u = add-mul q q u in
    le_trans (square_mono (q * u + y) ((q + q) * u) (omega arith)) (squared (q + q) n u (le_trans (le_of_eq (square-twice q)) (mul-le-mul_left 4 l)))

pub below : (n q k p j : ℕ) → IsNear n q → 2 ^ 104 ≤ n → p < 2 ^ 53 → p * 2 ^ j < q * 2 ^ k → (q * 2 ^ k + p * 2 ^ j) * (q * 2 ^ k + p * 2 ^ j) ≤ 4 * (n * (2 ^ k * 2 ^ k))
below n q k p j near big few h = by_lt n (q * q)
    (λ l.
    let z = q - 1 in
    let m = more l in
    let e : q ≡ z + 1 = omega arith in
    subst (λ (x : ℕ). (x * 2 ^ k + p * 2 ^ j) * (x * 2 ^ k + p * 2 ^ j) ≤ 4 * (n * (2 ^ k * 2 ^ k))) (sym e)
    (below_by n z (2 ^ k) (p * 2 ^ j) (subst (λ (x : ℕ). IsNear n x) e near) (omega arith) (before z e (omega arith))))
    (λ l. below_down n q (2 ^ k) (p * 2 ^ j) l h)
  where
    -- q is 2 ^ 52 + 1 at least, since n is 2 ^ 104 at least
    more : n < q * q → 2 ^ 52 < q
    more l = lt_of_not-le (λ (g : q ≤ 2 ^ 52). let x = square_mono q (2 ^ 52) g in omega arith)

    -- so y is a multiple of 2 ^ k, or it is below 2 ^ 52 of them
    before : (z : ℕ) → q ≡ z + 1 → 2 ^ 52 ≤ z → p * 2 ^ j ≤ z * 2 ^ k
    before z e m = by_lt (p * 2 ^ j) (2 ^ 52 * 2 ^ k)
        (λ g. le_trans (le_of_lt g) (mul-le-mul_right (2 ^ k) m))
        (λ g.
        let f : p * 2 ^ j ≡ p * 2 ^ (j - k) * 2 ^ k = multiple p j k (reaches p j k few g) in
        let l : p * 2 ^ (j - k) < q = lt_of_mul-lt-mul_right (2 ^ k) (subst (λ (x : ℕ). x < q * 2 ^ k) f h) in
        le_trans (le_of_eq f) (mul-le-mul_right (2 ^ k) (omega arith)))

-- ---- the numbers of a double above 0: its root squared is n * (2 ^ k * 2 ^ k) units, and `root_units` has q * 2 ^ k of them
abbrev Shape : ℕ → Type 0
Shape w = (n : ℕ) × (q : ℕ) × (k : ℕ) × (w ≡ n * (2 ^ k * 2 ^ k)) × (root_units w ≡ q * 2 ^ k) × IsNear n q × (2 ^ 104 ≤ n) × (2 ^ 52 ≤ q)

shape : (m j : ℕ) → 0 < m → m < 2 ^ 53 → Shape (m * 2 ^ j * 2 ^ 1074)
shape m j p h =
    let f = parts m j p h in
    let a = m * 2 ^ moved m j in
    let i = exponent m j / 2 in
    let k = i - 26 in
    let below54 : a < 2 ^ 54 = let g = f.high in omega arith in
    let lo = f.low in (
      a * 2 ^ 52,
      near_root (a * 2 ^ 52),
      k,
      f.whole ∙ cut a i f.enough ∙ ap (λ (x : ℕ). a * 2 ^ 52 * x) (square_pow k),
      ap root_units f.whole ∙ cut_by (λ q k. q * 2 ^ k) a i lo below54 f.enough,
      near_root-near (a * 2 ^ 52),
      mul-le-mul_right (2 ^ 52) lo,
      f.root_low,
    )

-- ---- floats
-- a finite double's size in units; and for one with the sign clear that is its value
abbrev pub in_units : Float → ℕ
in_units nan = 0
in_units (inf s) = 0
in_units (fin s m e) = unit_count m e

units_of : (v : Float) (g : ℕ) → HasValue v false g (2 ^ 1074) → in_units v ≡ g
units_of nan g h = absurd h
units_of (inf s) g h = absurd h
units_of (fin true m e) g h = absurd (true≢false h.0)
units_of (fin false m e) g h = units_of_is false m e g h

-- what is not from 0 up has no root
pub no_root : (x : Float) → T (fits binary64 x) → (T (le nought x) → ⊥) → sqrt_of x ≡ nan
unfolding sqrt_of fits le
no_root nan X h = refl
no_root (inf true) X h = refl
no_root (inf false) X h = absurd (h tt)
no_root (fin false m e) X h = absurd (h (unsigned-from (fin false m e) tt))
no_root (fin true zero e) X h = absurd (h (subst (λ (d : ℤ). T (le nought (fin true 0 d))) (sym (zero_exponent e (eqb→eq (up e * down e) 1 X))) tt))
no_root (fin true (suc m) e) X h = refl

-- what the theorems say of the three counts
abbrev pub Above : ℕ → ℕ → ℕ → Type 0
Above x r y = 4 * (x * 2 ^ 1074) ≤ (r + y) * (r + y)

abbrev pub Below : ℕ → ℕ → ℕ → Type 0
Below x r y = (r + y) * (r + y) ≤ 4 * (x * 2 ^ 1074)

pub sqrt_nearest : (x y : Float) → T (fits binary64 x) → T (positive x) → T (fits binary64 y) → T (finite y) → T (unsigned y)
    → (T (lt (sqrt_of x) y) → Above (in_units x) (in_units (sqrt_of x)) (in_units y)) × (T (lt y (sqrt_of x)) → Below (in_units x) (in_units (sqrt_of x)) (in_units y))
sqrt_nearest nan y X P Y F N = absurd P
sqrt_nearest (inf s) y X P Y F N = absurd P
sqrt_nearest (fin true m e) y X P Y F N = absurd P
sqrt_nearest (fin false m e) nan X P Y F N = absurd F
sqrt_nearest (fin false m e) (inf t) X P Y F N = absurd F
sqrt_nearest (fin false m e) (fin true n d) X P Y F N = absurd N
sqrt_nearest (fin false m e) (fin false n d) X P Y F N =
    let i = placed binary64 false m e X in
    let j = placed binary64 false n d Y in
    let g = m * 2 ^ i.0 in
    let y = n * 2 ^ j.0 in
    let s = shape m i.0 (ltb→lt 0 m P) i.2 in
    let q = s.1 in
    let k = s.2 in
    let vr : HasValue (sqrt_of (fin false m e)) false (q * 2 ^ k) (2 ^ 1074) = subst (λ (z : ℕ). HasValue (sqrt_of (fin false m e)) false z (2 ^ 1074)) s.4 (root_valued (fin false m e) g (refl, i.1) (mul-pos (ltb→lt 0 m P) (pow_pos i.0))) in
    let vy : HasValue (fin false n d) false y (2 ^ 1074) = (refl, j.1) in
    let cr = value-count binary64 (sqrt_of (fin false m e)) (q * 2 ^ k) vr in
    let cy = value-count binary64 (fin false n d) y vy in
    let ex : in_units (fin false m e) ≡ g = units_of (fin false m e) g (refl, i.1) in
    let er : in_units (sqrt_of (fin false m e)) ≡ q * 2 ^ k = units_of (sqrt_of (fin false m e)) (q * 2 ^ k) vr in
    let ey : in_units (fin false n d) ≡ y = units_of (fin false n d) y vy in
    let r = sqrt_of (fin false m e) in (
      λ l. exchange Above ex er ey (subst (λ (z : ℕ). 4 * z ≤ (q * 2 ^ k + y) * (q * 2 ^ k + y)) (sym s.3)
          (above s.0 q k n j.0 s.5 s.7 j.2 (lt→count binary64 r (fin false n d) (q * 2 ^ k) y cr cy l))),
      λ l. exchange Below ex er ey (subst (λ (z : ℕ). (q * 2 ^ k + y) * (q * 2 ^ k + y) ≤ 4 * z) (sym s.3)
          (below s.0 q k n j.0 s.5 s.6 j.2 (lt→count binary64 (fin false n d) r y (q * 2 ^ k) cy cr l))),
    )
  where
    exchange : (C : ℕ → ℕ → ℕ → Type 0) {a b c a' b' c' : ℕ} → a' ≡ a → b' ≡ b → c' ≡ c → C a b c → C a' b' c'
    exchange C {a} {b} {c} {a'} {b'} {c'} p q r h = subst (λ (z : ℕ). C z b' c') (sym p) (subst (λ (z : ℕ). C a z c') (sym q) (subst (λ (z : ℕ). C a b z) (sym r) h))
