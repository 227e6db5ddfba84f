-- Magnitudes by powers of two, which keep a computation from overflowing: `Within k x` says that the double x is at most 2 ^ k in magnitude, so a number and no
-- NaN. A sum is within the next power, a product within the sum of the exponents, and so is a quotient by what is at least 2 ^ -i.
--
use mathlib.Core.Path.{◌≡◌, sym, ap, ◌∙◌, subst}
use mathlib.Core.Logic.{◌⊎◌, inl, inr, ⊎_elim}
use mathlib.Core.Bool.{true, false, not}
use Prim.Native.Nat.{ℕ, suc, ◌+◌, ◌-◌, ◌*◌, ◌^◌, ◌≤◌, ◌<◌}
use native.Mathlib.Nat.{le_trans, le_of_eq, mul-le-mul, mul-le-mul_left, mul-le-mul_right, mul_comm, mul_assoc, mul_right_comm, mul-mul-mul_comm, mul-pos, one-mul, zero-add, pow-suc}
use native.Mathlib.Omega.{arith}
use lib.Dec.{T, lt→ltb}
use lib.IntN.{negsuc}
use lib.Pow.{pow-add, pow_pos, pow-lt, pow_mono}
use lib.Ieee.{Float, nan, inf, fin, binary64, fits, is_nan, le, neg, add, sub, mul, div}
use lib.Ieee.Digits.{back}
use lib.Ieee.Fits.{neg-fits}
use Rattle.float_laws.proofs.Units.{Number, Counts, counts_of, le→counts, counts→le}
use Rattle.float_laws.proofs.Order.{le_not_nan, le_trans as le-trans-float}
use Rattle.float_laws.proofs.Rounding.{Rounded, rounded_le, le_rounded, rounded-fits, between_finite, le_neg, neg_counts, add-rounded, div_rounded}
use Rattle.float_laws.proofs.Constants.{L, exp2, exp2-counts, minus_exp2}
use Rattle.float_laws.proofs.Arithmetic.{upper, mul-rounded}

pub record Within (k : ℕ) (x : Float) : Type 0 where
  pub held : T (fits binary64 x)
  pub low : T (le (minus_exp2 k) x)
  pub high : T (le x (exp2 k))

pub within-number : (k : ℕ) (x : Float) → Within k x → Number binary64 x
within-number k x w = record { held = w.held; finite = between_finite (minus_exp2 k) x (exp2 k) tt tt w.low w.high }

-- ---- the powers of two
pub exp2-fits : (k : ℕ) → k ≤ 1023 → T (fits binary64 (exp2 k)) × T (fits binary64 (minus_exp2 k))
unfolding fits
exp2-fits k h =
    let a = lt→ltb (1 * 2 ^ k) (2 ^ 1024) (subst (λ (z : ℕ). z < 2 ^ 1024) (sym (one-mul (2 ^ k))) (pow-lt (less k h))) in
    (a, a)
  where
    less : (k : ℕ) → k ≤ 1023 → k < 1024
    less k h = omega arith

minus_counts : (k : ℕ) → Counts binary64 (minus_exp2 k) 0 (2 ^ k * L)
unfolding neg
minus_counts k = neg_counts binary64 (exp2 k) (2 ^ k * L) 0 (exp2-counts k)

-- they rise, and their negations fall
pub exp2_mono : (j k : ℕ) → j ≤ k → T (le (minus_exp2 k) (minus_exp2 j)) × T (le (exp2 j) (exp2 k))
unfolding neg
exp2_mono j k h =
    let a = counts→le binary64 (exp2 j) (exp2 k) (2 ^ j * L) 0 (2 ^ k * L) 0 (exp2-counts j) (exp2-counts k) (none (mul-le-mul_right L (pow_mono h))) in
    (le_neg (exp2 j) (exp2 k) a, a)
  where
    none : {a b : ℕ} → a ≤ b → a + 0 ≤ b + 0
    none h = omega arith

-- ---- a rounding of what is at most 2 ^ k
lower : (P N B c l : ℕ) → N ≤ P + B * c → 0 * c + N * l ≤ P * l + B * l * c
lower P N B c l h = let a = upper N P B c l (omega arith) in omega arith

rounded-within : (x : Float) (P N c k : ℕ) → 0 < c → k ≤ 1023 → Rounded binary64 x P N c → P ≤ 2 ^ k * c + N → N ≤ P + 2 ^ k * c → Within k x
rounded-within x P N c k C K r a b =
    record {
      held = rounded-fits binary64 x P N c r;
      low = le_rounded binary64 x (minus_exp2 k) P N c 0 (2 ^ k * L) C r (exp2-fits k K).1 (minus_counts k) (lower P N (2 ^ k) c L b);
      high = rounded_le binary64 x (exp2 k) P N c (2 ^ k * L) 0 C r (exp2-fits k K).0 (exp2-counts k) (upper P N (2 ^ k) c L a);
    }

-- what `Within` says of a count
record Bounds (k p n : ℕ) : Type 0 where
  top : p ≤ 2 ^ k * L + n
  bottom : n ≤ p + 2 ^ k * L

bounds : (k : ℕ) (x : Float) (p n : ℕ) → Within k x → Counts binary64 x p n → Bounds k p n
bounds k x p n w i =
    record {
      top = right p n (2 ^ k * L) (le→counts binary64 x (exp2 k) p n (2 ^ k * L) 0 i (exp2-counts k) w.high);
      bottom = left p n (2 ^ k * L) (le→counts binary64 (minus_exp2 k) x 0 (2 ^ k * L) p n (minus_counts k) i w.low);
    }
  where
    right : (p n b : ℕ) → p + 0 ≤ b + n → p ≤ b + n
    right p n b h = omega arith

    left : (p n b : ℕ) → 0 + n ≤ p + b → n ≤ p + b
    left p n b h = omega arith

-- ---- quotients by what is at least 2 ^ -(i + 1)
abbrev pub exp2-below : ℕ → Float
exp2-below i = fin false 1 (negsuc i)

whole : (i : ℕ) → i < 1074 → L ≡ 2 ^ (1074 - suc i) * 2 ^ suc i
whole i h = ap (λ (z : ℕ). 2 ^ z) (sym (back 1074 (suc i) h)) ∙ pow-add 2 (1074 - suc i) (suc i)

below-counts : (i : ℕ) → i < 1074 → Counts binary64 (exp2-below i) (2 ^ (1074 - suc i)) 0
below-counts i h = (2 ^ (1074 - suc i), one-mul L ∙ whole i h, sym (zero-add (2 ^ (1074 - suc i))))

-- at least 2 ^ -(i + 1), so 2 ^ (i + 1) times it is at least 1
divisor : (i q : ℕ) → i < 1074 → 2 ^ (1074 - suc i) ≤ q → L ≤ 2 ^ suc i * q
divisor i q h l = le_trans (le_of_eq (whole i h ∙ mul_comm (2 ^ (1074 - suc i)) (2 ^ suc i))) (mul-le-mul_left (2 ^ suc i) l)

spread : (j i q : ℕ) → L ≤ 2 ^ suc i * q → 2 ^ j * L ≤ 2 ^ (j + suc i) * q
spread j i q h =
    le_trans (mul-le-mul_left (2 ^ j) h)
    (le_of_eq (sym (mul_assoc (2 ^ j) (2 ^ suc i) q) ∙ ap (λ (z : ℕ). z * q) (sym (pow-add 2 j (suc i)))))

pub div_within : (j i : ℕ) (x y : Float) → i < 1074 → j + suc i ≤ 1023 → Within j x → Number binary64 y → T (le (exp2-below i) y) → Within (j + suc i) (div binary64 x y)
div_within j i x y I K X Y h =
    let a = counts_of binary64 x (within-number j x X) in
    let b = counts_of binary64 y Y in
    let s = bounds j x a.0 a.1 X a.2 in
    let l = least b.0 b.1 (2 ^ (1074 - suc i)) (le→counts binary64 (exp2-below i) y (2 ^ (1074 - suc i)) 0 b.0 b.1 (below-counts i I) b.2 h) (pow_pos (1074 - suc i)) in
    let w = spread j i (b.0 - b.1) (divisor i (b.0 - b.1) I l.0) in
    rounded-within (div binary64 x y) a.0 a.1 (b.0 - b.1) (j + suc i) l.2 K (div_rounded binary64 x y a.0 a.1 b.0 b.1 l.1 a.2 b.2)
    (right a.0 a.1 (2 ^ j * L) (2 ^ (j + suc i) * (b.0 - b.1)) w s.top) (left a.0 a.1 (2 ^ j * L) (2 ^ (j + suc i) * (b.0 - b.1)) w s.bottom)
  where
    least : (p n c : ℕ) → c + n ≤ p + 0 → 0 < c → (c ≤ p - n) × (n < p) × (0 < p - n)
    least p n c h k = (omega arith, omega arith, omega arith)

    right : (p n b c : ℕ) → b ≤ c → p ≤ b + n → p ≤ c + n
    right p n b c h k = omega arith

    left : (p n b c : ℕ) → b ≤ c → n ≤ p + b → n ≤ p + c
    left p n b c h k = omega arith

-- ---- more of what is within a power of two
pub within-not-nan : (k : ℕ) (x : Float) → Within k x → T (not (is_nan x))
within-not-nan k x w = (le_not_nan x (exp2 k) w.high).0

-- a bound may be widened
pub within_wider : (j k : ℕ) (x : Float) → j ≤ k → Within j x → Within k x
within_wider j k x h w =
    let e = exp2_mono j k h in
    record { held = w.held; low = le-trans-float (minus_exp2 k) (minus_exp2 j) x e.0 w.low; high = le-trans-float x (exp2 j) (exp2 k) w.high e.1 }

-- of two bounds in order, each is within what both are
pub ends-within : (k : ℕ) (low high : Float) → T (fits binary64 low) → T (fits binary64 high) → T (le low high) → T (le (minus_exp2 k) low) → T (le high (exp2 k)) → Within k low × Within k high
ends-within k low high L H h a b =
    (record { held = L; low = a; high = le-trans-float low high (exp2 k) h b }, record { held = H; low = le-trans-float (minus_exp2 k) low high a h; high = b })

pub neg_within : (k : ℕ) (x : Float) → Within k x → Within k (neg x)
unfolding neg
neg_within k x w = record { held = neg-fits binary64 x w.held; low = le_neg x (exp2 k) w.high; high = le_neg (minus_exp2 k) x w.low }

-- ---- sums and differences: twice the bound is the next one
pub add-within : (k : ℕ) (x y : Float) → suc k ≤ 1023 → Within k x → Within k y → Within (suc k) (add binary64 x y)
add-within k x y K X Y =
    let a = counts_of binary64 x (within-number k x X) in
    let b = counts_of binary64 y (within-number k y Y) in
    let s = bounds k x a.0 a.1 X a.2 in
    let t = bounds k y b.0 b.1 Y b.2 in
    let e = twice (2 ^ k) (2 ^ suc k) L (pow-suc 2 k) in
    rounded-within (add binary64 x y) (a.0 + b.0) (a.1 + b.1) L (suc k) (pow_pos 1074) K (add-rounded binary64 x y a.0 a.1 b.0 b.1 a.2 b.2)
    (top a.0 a.1 b.0 b.1 (2 ^ k * L) (2 ^ suc k * L) e s.top t.top) (bottom a.0 a.1 b.0 b.1 (2 ^ k * L) (2 ^ suc k * L) e s.bottom t.bottom)
  where
    twice : (B C l : ℕ) → C ≡ B * 2 → C * l ≡ B * l + B * l
    twice B C l e = let d = ap (λ (z : ℕ). z * l) e in let c = mul_right_comm B 2 l in omega arith

    top : (p n q m b c : ℕ) → c ≡ b + b → p ≤ b + n → q ≤ b + m → p + q ≤ c + (n + m)
    top p n q m b c e h k = omega arith

    bottom : (p n q m b c : ℕ) → c ≡ b + b → n ≤ p + b → m ≤ q + b → n + m ≤ p + q + c
    bottom p n q m b c e h k = omega arith

pub sub_within : (k : ℕ) (x y : Float) → suc k ≤ 1023 → Within k x → Within k y → Within (suc k) (sub binary64 x y)
unfolding sub
sub_within k x y K X Y = add-within k x (neg y) K X (neg_within k y Y)

-- ---- products
-- x is g units, or -g units
abbrev Size : Float → ℕ → Type 0
Size x g = Counts binary64 x g 0 ⊎ Counts binary64 x 0 g

size_of : (x : Float) → Number binary64 x → (g : ℕ) × Size x g
size_of nan X = absurd X.finite
size_of (inf s) X = absurd X.finite
size_of (fin false m e) X = let c = counts_of binary64 (fin false m e) X in (c.2.0, inl (c.2.0, c.2.1, omega arith))
size_of (fin true m e) X = let c = counts_of binary64 (fin true m e) X in (c.2.0, inr (c.2.0, c.2.1, omega arith))

size-le : (k : ℕ) (x : Float) (g : ℕ) → Within k x → Size x g → g ≤ 2 ^ k * L
size-le k x g w z = ⊎_elim (λ c. plain g (2 ^ k * L) (bounds k x g 0 w c).top) (λ c. plain' g (2 ^ k * L) (bounds k x 0 g w c).bottom) z
  where
    plain : (g b : ℕ) → g ≤ b + 0 → g ≤ b
    plain g b h = omega arith

    plain' : (g b : ℕ) → g ≤ 0 + b → g ≤ b
    plain' g b h = omega arith

-- the two sides of a product, in units of units, and a bound on both
record Sides (z : Float) (G : ℕ) : Type 0 where
  up_side : ℕ
  down_side : ℕ
  rounded : Rounded binary64 z up_side down_side (L * L)
  up_le : up_side ≤ G
  down_le : down_side ≤ G

sides : (x y : Float) (g h : ℕ) → Size x g → Size y h → Sides (mul binary64 x y) (g * h)
sides x y g h a b = ⊎_elim
    (λ c. ⊎_elim
    (λ d. record { up_side = g * h + 0 * 0; down_side = g * 0 + 0 * h; rounded = mul-rounded binary64 x y g 0 h 0 c d; up_le = omega arith; down_le = omega arith })
    (λ d. record { up_side = g * 0 + 0 * h; down_side = g * h + 0 * 0; rounded = mul-rounded binary64 x y g 0 0 h c d; up_le = omega arith; down_le = omega arith }) b)
    (λ c. ⊎_elim
    (λ d. record { up_side = 0 * h + g * 0; down_side = 0 * 0 + g * h; rounded = mul-rounded binary64 x y 0 g h 0 c d; up_le = omega arith; down_le = omega arith })
    (λ d. record { up_side = 0 * 0 + g * h; down_side = 0 * h + g * 0; rounded = mul-rounded binary64 x y 0 g 0 h c d; up_le = omega arith; down_le = omega arith }) b) a

pub mul-within : (j k : ℕ) (x y : Float) → j + k ≤ 1023 → Within j x → Within k y → Within (j + k) (mul binary64 x y)
mul-within j k x y K X Y =
    let g = size_of x (within-number j x X) in
    let h = size_of y (within-number k y Y) in
    let s = sides x y g.0 h.0 g.1 h.1 in
    let b : g.0 * h.0 ≤ 2 ^ (j + k) * (L * L) =
    le_trans (mul-le-mul (size-le j x g.0 X g.1) (size-le k y h.0 Y h.1)) (le_of_eq (mul-mul-mul_comm (2 ^ j) L (2 ^ k) L ∙ ap (λ (z : ℕ). z * (L * L)) (sym (pow-add 2 j k)))) in
    rounded-within (mul binary64 x y) s.up_side s.down_side (L * L) (j + k) (mul-pos (pow_pos 1074) (pow_pos 1074)) K s.rounded
    (top s.up_side s.down_side (g.0 * h.0) (2 ^ (j + k) * (L * L)) s.up_le b) (bottom s.down_side s.up_side (g.0 * h.0) (2 ^ (j + k) * (L * L)) s.down_le b)
  where
    top : (p n g b : ℕ) → p ≤ g → g ≤ b → p ≤ b + n
    top p n g b h k = omega arith

    bottom : (p n g b : ℕ) → p ≤ g → g ≤ b → p ≤ n + b
    bottom p n g b h k = omega arith
