-- The four operations, each rounded once, and the order: sums and products of numbers from 0 up grow with each part, differences and quotients with the
-- first (both fall with the second), and a quotient x / a for 0 ≤ x ≤ a lies within 0..1.
use mathlib.Core.Path.{◌≡◌, ap, ◌∙◌, subst}
use Prim.Native.Nat.{ℕ, ◌+◌, ◌-◌, ◌*◌, ◌^◌, ◌≤◌, ◌<◌, zero-le}
use native.Mathlib.Nat.{one-mul, mul_assoc, mul_right_comm, mul-pos, mul-le-mul, mul-le-mul_left, mul-le-mul_right, add-mul, mul-add, mul-mul-mul_comm}
use native.Mathlib.Omega.{arith}
use mathlib.Core.Bool.{Bool, true, false}
use lib.Dec.{T}
use lib.Pow.{pow_pos}
use lib.Ieee.{Float, nan, inf, fin, Format, low, up, down, fits, le, lt, add, sub, mul, div, neg, unlike}
use lib.Ieee.Fits.{down_pos, neg-fits}
use lib.Ieee.Scale.{finite, round_same}
use Rattle.float_laws.proofs.Units.{Number, Sgn, Counts, le→counts, le→count, counts→le, counts_of, counts_same}
use Rattle.float_laws.proofs.Order.{le_trans, lt→le, lt→counts, lt→count}
use Rattle.float_laws.proofs.Rounding.{Rounded, le_neg, rounded_shift, rounded_mono, rounded_le, le_rounded, add-rounded, sub_rounded, div_rounded}
use Rattle.float_laws.proofs.Constants.{nought, nought-counts, nought-fits, one, one-counts, one-fits}

pub neg_number : {f : Format} (x : Float) → Number f x → Number f (neg x)
unfolding neg
neg_number nan X = absurd X.finite
neg_number (inf s) X = absurd X.finite
neg_number {f} (fin s m e) X = record { held = neg-fits f (fin s m e) X.held; finite = tt }

pub itself : {f : Format} (x : Float) → Number f x → T (le x x)
itself {f} x X = let o = counts_of f x X in counts→le f x x o.0 o.1 o.0 o.1 o.2 o.2 (omega arith)

-- sums times one number
pub scaled : (a b c d L : ℕ) → a + b ≤ c + d → a * L + b * L ≤ c * L + d * L
scaled a b c d L h =
    let x = mul-le-mul_right L h in
    let y = add-mul a b L in
    let z = add-mul c d L in
    omega arith

-- a number from 0 up is a whole number of units
pub count : (f : Format) (x : Float) → Number f x → T (le nought x) → (g : ℕ) × Counts f x g 0
count f x X h =
    let o = counts_of f x X in
    let d : 0 + o.1 ≤ o.0 + 0 = le→counts f nought x 0 0 o.0 o.1 (nought-counts f) o.2 h in
    (o.0 - o.1, counts_same f x o.0 o.1 (o.0 - o.1) 0 o.2 (omega arith))

-- what is rounded from 0 up is from 0 up
pub rounded-from-zero : (f : Format) (x : Float) (p n c : ℕ) → 0 < c → Rounded f x p n c → n ≤ p → T (le nought x)
rounded-from-zero f x p n c C r h =
    let a = mul-le-mul_right (2 ^ low f) h in
    le_rounded f x nought p n c 0 0 C r (nought-fits f) (nought-counts f) (omega arith)

-- ---- sums
pub add_mono : (f : Format) (x x' y y' : Float) → Number f x → Number f x' → Number f y → Number f y' → T (le x x') → T (le y y') → T (le (add f x y) (add f x' y'))
add_mono f x x' y y' X X' Y Y' h k =
    let a = counts_of f x X in
    let b = counts_of f x' X' in
    let c = counts_of f y Y in
    let d = counts_of f y' Y' in
    let u = le→counts f x x' a.0 a.1 b.0 b.1 a.2 b.2 h in
    let w = le→counts f y y' c.0 c.1 d.0 d.1 c.2 d.2 k in
    rounded_mono f (add f x y) (add f x' y') (a.0 + c.0) (a.1 + c.1) (2 ^ low f) (b.0 + d.0) (b.1 + d.1) (2 ^ low f) (pow_pos (low f)) (pow_pos (low f))
    (add-rounded f x y a.0 a.1 c.0 c.1 a.2 c.2) (add-rounded f x' y' b.0 b.1 d.0 d.1 b.2 d.2)
    (scaled (a.0 + c.0) (b.1 + d.1) (b.0 + d.0) (a.1 + c.1) (2 ^ low f) (omega arith))

pub add-from-zero : (f : Format) (x y : Float) → Number f x → Number f y → T (le nought x) → T (le nought y) → T (le nought (add f x y))
add-from-zero f x y X Y h k =
    let a = count f x X h in
    let b = count f y Y k in
    rounded-from-zero f (add f x y) (a.0 + b.0) 0 (2 ^ low f) (pow_pos (low f)) (add-rounded f x y a.0 0 b.0 0 a.1 b.1) zero-le

-- a sum is at least each part where the other is from 0 up
module _ (f : Format) (x y : Float) (X : Number f x) (Y : Number f y) where
  pub left-below-sum : T (le nought y) → T (le x (add f x y))
  left-below-sum h =
      let a = counts_of f x X in
      let b = count f y Y h in
      le_rounded f (add f x y) x (a.0 + b.0) (a.1 + 0) (2 ^ low f) a.0 a.1 (pow_pos (low f))
      (add-rounded f x y a.0 a.1 b.0 0 a.2 b.1) X.held a.2
      (scaled a.0 (a.1 + 0) (a.0 + b.0) a.1 (2 ^ low f) (omega arith))

  pub right_below_sum : T (le nought x) → T (le y (add f x y))
  right_below_sum h =
      let a = count f x X h in
      let b = counts_of f y Y in
      le_rounded f (add f x y) y (a.0 + b.0) (0 + b.1) (2 ^ low f) b.0 b.1 (pow_pos (low f))
      (add-rounded f x y a.0 0 b.0 b.1 a.1 b.2) Y.held b.2
      (scaled b.0 (0 + b.1) (a.0 + b.0) b.1 (2 ^ low f) (omega arith))

-- ---- differences
pub sub_from_zero : (f : Format) (x y : Float) → Number f x → Number f y → T (le y x) → T (le nought (sub f x y))
sub_from_zero f x y X Y h =
    let a = counts_of f x X in
    let b = counts_of f y Y in
    let d = le→counts f y x b.0 b.1 a.0 a.1 b.2 a.2 h in
    rounded-from-zero f (sub f x y) (a.0 + b.1) (a.1 + b.0) (2 ^ low f) (pow_pos (low f)) (sub_rounded f x y a.0 a.1 b.0 b.1 a.2 b.2) (omega arith)

pub sub_mono : (f : Format) (x x' y y' : Float) → Number f x → Number f x' → Number f y → Number f y' → T (le x x') → T (le y' y) → T (le (sub f x y) (sub f x' y'))
unfolding sub
sub_mono f x x' y y' X X' Y Y' h k = add_mono f x x' (neg y) (neg y') X X' (neg_number y Y) (neg_number y' Y') h (le_neg y' y k)

-- ---- products
-- (p - n) * (p' - n')
prod : (g h p n p' n' : ℕ) → p ≡ n + g → p' ≡ n' + h → p * p' + n * n' ≡ p * n' + n * p' + g * h
prod g h p n p' n' e d =
    let a : p * p' ≡ n * p' + g * p' = ap (λ (z : ℕ). z * p') e ∙ add-mul n g p' in
    let b : g * p' ≡ g * n' + g * h = ap (λ (z : ℕ). g * z) d ∙ mul-add g n' h in
    let c : p * n' ≡ n * n' + g * n' = ap (λ (z : ℕ). z * n') e ∙ add-mul n g n' in
    omega arith

prod_sgn : (s t : Bool) (g h p n p' n' : ℕ) → Sgn s g p n → Sgn t h p' n' → Sgn (unlike s t) (g * h) (p * p' + n * n') (p * n' + n * p')
prod_sgn false false g h p n p' n' e d = prod g h p n p' n' e d
prod_sgn true true g h p n p' n' e d = let z = prod g h n p n' p' e d in omega arith
prod_sgn false true g h p n p' n' e d = prod g h p n n' p' e d
prod_sgn true false g h p n p' n' e d = let z = prod g h n p p' n' e d in omega arith

cross : (A B c d g h L : ℕ) → A * L ≡ g * c → B * L ≡ h * d → A * B * (L * L) ≡ g * h * (c * d)
cross A B c d g h L p q = mul-mul-mul_comm A B L L ∙ ap (λ (z : ℕ). z * (B * L)) p ∙ ap (λ (z : ℕ). g * c * z) q ∙ mul-mul-mul_comm g c h d

pub mul-rounded : (f : Format) (x y : Float) (p n p' n' : ℕ) → Counts f x p n → Counts f y p' n' → Rounded f (mul f x y) (p * p' + n * n') (p * n' + n * p') (2 ^ low f * 2 ^ low f)
unfolding mul
mul-rounded f nan y p n p' n' a b = absurd a
mul-rounded f (inf s) y p n p' n' a b = absurd a
mul-rounded f (fin s m e) nan p n p' n' a b = absurd b
mul-rounded f (fin s m e) (inf t) p n p' n' a b = absurd b
mul-rounded f (fin s m e) (fin t k d) p n p' n' (g, u, i) (h, v, j) =
    let L = 2 ^ low f in (
      unlike s t,
      g * h,
      round_same f (unlike s t) (m * up e * (k * up d)) (down e * down d) (g * h) (L * L) (mul-pos (down_pos e) (down_pos d)) (mul-pos (pow_pos (low f)) (pow_pos (low f))) (cross (m * up e) (k * up d) (down e) (down d) g h L u v),
      prod_sgn s t g h p n p' n' i j,
    )

-- of numbers from 0 up
pub mul-count : (f : Format) (x y : Float) (g h : ℕ) → Counts f x g 0 → Counts f y h 0 → Rounded f (mul f x y) (g * h) 0 (2 ^ low f * 2 ^ low f)
mul-count f x y g h a b =
    rounded_shift f (mul f x y) (g * h + 0 * 0) (g * 0 + 0 * h) (2 ^ low f * 2 ^ low f) (g * h) 0 (mul-rounded f x y g 0 h 0 a b) (omega arith)

-- a bound of the exact product that the format holds is one of the rounded
pub mul_le : (f : Format) (x y z : Float) (g h k : ℕ) → Counts f x g 0 → Counts f y h 0 → T (fits f z) → Counts f z k 0 → g * h ≤ k * 2 ^ low f → T (le (mul f x y) z)
mul_le f x y z g h k a b Z c l =
    let L = 2 ^ low f in
    rounded_le f (mul f x y) z (g * h) 0 (L * L) k 0 (mul-pos (pow_pos (low f)) (pow_pos (low f))) (mul-count f x y g h a b) Z c (most (g * h) k L l)
  where
    most : (a c l : ℕ) → a ≤ c * l → a * l + 0 * (l * l) ≤ c * (l * l) + 0 * l
    most a c l h =
        let x = mul-le-mul_right l h in
        let y = mul_assoc c l l in
        omega arith

pub mul-from-zero : (f : Format) (x y : Float) → Number f x → Number f y → T (le nought x) → T (le nought y) → T (le nought (mul f x y))
mul-from-zero f x y X Y h k =
    let a = count f x X h in
    let b = count f y Y k in
    rounded-from-zero f (mul f x y) (a.0 * b.0) 0 (2 ^ low f * 2 ^ low f) (mul-pos (pow_pos (low f)) (pow_pos (low f))) (mul-count f x y a.0 b.0 a.1 b.1) zero-le

pub mul_mono : (f : Format) (x x' y y' : Float) → Number f x → Number f x' → Number f y → Number f y' → T (le nought x) → T (le nought y) → T (le x x') → T (le y y')
    → T (le (mul f x y) (mul f x' y'))
mul_mono f x x' y y' X X' Y Y' p q h k =
    let a = count f x X p in
    let a' = count f x' X' (le_trans nought x x' p h) in
    let b = count f y Y q in
    let b' = count f y' Y' (le_trans nought y y' q k) in
    let L2 = 2 ^ low f * 2 ^ low f in
    let P : 0 < L2 = mul-pos (pow_pos (low f)) (pow_pos (low f)) in
    let d = mul-le-mul (le→count f x x' a.0 a'.0 a.1 a'.1 h) (le→count f y y' b.0 b'.0 b.1 b'.1 k) in
    rounded_mono f (mul f x y) (mul f x' y') (a.0 * b.0) 0 L2 (a'.0 * b'.0) 0 L2 P P (mul-count f x y a.0 b.0 a.1 b.1) (mul-count f x' y' a'.0 b'.0 a'.1 b'.1)
    (scaled (a.0 * b.0) 0 (a'.0 * b'.0) 0 L2 (omega arith))

-- ---- quotients by a divisor above 0
pub div_mono_left : (f : Format) (x x' y : Float) → Number f x → Number f x' → Number f y → T (lt nought y) → T (le x x') → T (le (div f x y) (div f x' y))
div_mono_left f x x' y X X' Y p h =
    let a = counts_of f x X in
    let b = counts_of f x' X' in
    let c = counts_of f y Y in
    let u = le→counts f x x' a.0 a.1 b.0 b.1 a.2 b.2 h in
    let w : 0 + c.1 < c.0 + 0 = lt→counts f nought y 0 0 c.0 c.1 (nought-counts f) c.2 p in
    let q : c.1 < c.0 = omega arith in
    let z : 0 < c.0 - c.1 = omega arith in
    rounded_mono f (div f x y) (div f x' y) a.0 a.1 (c.0 - c.1) b.0 b.1 (c.0 - c.1) z z
    (div_rounded f x y a.0 a.1 c.0 c.1 q a.2 c.2) (div_rounded f x' y b.0 b.1 c.0 c.1 q b.2 c.2)
    (scaled a.0 b.1 b.0 a.1 (c.0 - c.1) (omega arith))

-- of numbers from 0 up
div_count : (f : Format) (x y : Float) (g h : ℕ) → 0 < h → Counts f x g 0 → Counts f y h 0 → Rounded f (div f x y) g 0 h
div_count f x y g h z a b = let e : h - 0 ≡ h = omega arith in subst (λ (c : ℕ). Rounded f (div f x y) g 0 c) e (div_rounded f x y g 0 h 0 z a b)

-- such a quotient falls as the divisor rises
pub div_mono_right : (f : Format) (x y y' : Float) → Number f x → Number f y → Number f y' → T (le nought x) → T (lt nought y) → T (le y y') → T (le (div f x y') (div f x y))
div_mono_right f x y y' X Y Y' h p k =
    let q = lt→le nought y p in
    let a = count f x X h in
    let b = count f y Y q in
    let c = count f y' Y' (le_trans nought y y' q k) in
    let w : 0 < b.0 = lt→count f nought y 0 b.0 (nought-counts f) b.1 p in
    let l = le→count f y y' b.0 c.0 b.1 c.1 k in
    let z : 0 < c.0 = omega arith in
    let m = mul-le-mul_left a.0 l in
    rounded_mono f (div f x y') (div f x y) a.0 0 c.0 a.0 0 b.0 z w
    (div_count f x y' a.0 c.0 z a.1 c.1) (div_count f x y a.0 b.0 w a.1 b.1) (omega arith)

-- what is at most B, in units of 1 / c, is so in those of 1 / l
pub upper : (P N B c l : ℕ) → P ≤ B * c + N → P * l + 0 * c ≤ B * l * c + N * l
upper P N B c l h =
    let a = mul-le-mul_right l h in
    let b = add-mul (B * c) N l in
    let d = mul_right_comm B c l in
    omega arith

-- x / y within 0..1 for 0 ≤ x ≤ y and 0 < y
pub ratio : (f : Format) (x y : Float) → Number f x → Number f y → T (le nought x) → T (le x y) → T (lt nought y) → T (le nought (div f x y)) × T (le (div f x y) one)
ratio f x y X Y h k l =
    let a = counts_of f x X in
    let b = counts_of f y Y in
    let p = a.0 in
    let n = a.1 in
    let q = b.0 in
    let m = b.1 in
    let d1 : 0 + n ≤ p + 0 = le→counts f nought x 0 0 p n (nought-counts f) a.2 h in
    let d2 : p + m ≤ q + n = le→counts f x y p n q m a.2 b.2 k in
    let d3 : 0 + m < q + 0 = lt→counts f nought y 0 0 q m (nought-counts f) b.2 l in
    let r = div_rounded f x y p n q m (omega arith) a.2 b.2 in
    let C : 0 < q - m = omega arith in (
      rounded-from-zero f (div f x y) p n (q - m) C r (omega arith),
      rounded_le f (div f x y) one p n (q - m) (2 ^ low f) 0 C r (one-fits f) (one-counts f) (subst (λ (z : ℕ). p * 2 ^ low f + 0 * (q - m) ≤ z * (q - m) + n * 2 ^ low f) (one-mul (2 ^ low f)) (upper p n 1 (q - m) (2 ^ low f) (omega arith))),
    )
