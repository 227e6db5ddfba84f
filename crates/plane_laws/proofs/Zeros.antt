-- Zeros of either sign among doubles: what is divided, multiplied and subtracted of them is one; and x / x is 1, and y less 1 times y a zero.
use Prim.Native.Nat.{ℕ, zero, suc, ◌+◌, ◌*◌, ◌^◌, ◌<◌}
use mathlib.Core.Path.{◌≡◌, refl, ap, sym, subst, ◌∙◌}
use mathlib.Core.Bool.{Bool, true, false, cond}
use native.Mathlib.Nat.{zero-mul, mul_comm, mul_assoc, mul-one, one-mul, mul-pos}
use native.Mathlib.Omega.{arith}
use borrow.Author.Tests.{eqb-false}
use lib.Dec.{T, eqb, eqb→eq, lit<}
use lib.IntN.{ℤ, pos}
use lib.Pow.{pow_pos}
use lib.Ieee.{Float, nan, inf, fin, Format, binary64, add, sub, mul, div, neg, eq, of_bits, fits, unlike, up, down, low, round}
use lib.Ieee.Scale.{finite, round_same}
use lib.Ieee.Fits.{up_pos, down_pos, sub-fits}
use Rattle.model.specs.Real.{◌⊖◌, ◌⊗◌, ◌⊘◌, unit}
use Rattle.model.specs.Real.{nought as zero64}
use Rattle.float_laws.proofs.Units.{Number, Counts, Sgn, counts_of, zero_exponent}
use Rattle.float_laws.proofs.Constants.{nought, one, nought-counts, nought-fits, one-counts}
use Rattle.float_laws.proofs.Rounding.{Rounded, rounded_shift, rounded_exact, sub_rounded}
use Rattle.float_laws.proofs.Arithmetic.{mul-rounded}

-- 0, of either sign
abbrev pub IsZero : Float → Type 0
IsZero v = (s : Bool) × (v ≡ fin s 0 (pos 0))

pub zero-equal : (v : Float) → IsZero v → eq v zero64 ≡ true
unfolding eq of_bits
zero-equal v (true, e) = ap (λ x. eq x zero64) e
zero-equal v (false, e) = ap (λ x. eq x zero64) e

-- ---- rounding

closed : (s : Bool) → round binary64 s 0 1 ≡ fin s 0 (pos 0)
unfolding round
closed true = refl
closed false = refl

rounds : (s : Bool) (a c : ℕ) → 0 < c → a ≡ 0 → IsZero (round binary64 s a c)
rounds s a c h e = (s, ap (λ x. round binary64 s x c) e ∙ round_same binary64 s 0 c 0 1 h (lit< tt) (zero-mul 1 ∙ sym (zero-mul c)) ∙ closed s)

-- of a choice that is finite, while its first part is not
pick : (P : Float → Type 0) (b : Bool) (x y : Float) → finite x ≡ false → (b ≡ false → P y) → T (finite (cond b x y)) → P (cond b x y)
pick P true x y h g t = absurd (subst T h t)
pick P false x y h g t = g refl

either : (c s : Bool) → finite (cond c nan (inf s)) ≡ false
either true s = refl
either false s = refl

divisor_pos : (n : ℕ) (d e : ℤ) → eqb n 0 ≡ false → 0 < n * up d * down e
divisor_pos n d e h = let p : 0 < n = (let f = eqb-false n 0 h in above n f) in mul-pos (mul-pos p (up_pos d)) (down_pos e)
  where
    above : (n : ℕ) → (n ≡ 0 → ⊥) → 0 < n
    above zero f = absurd (f refl)
    above (suc n) f = omega arith

-- ---- the operations

div_at : (s : Bool) (x : Float) → T (finite (fin s 0 (pos 0) ⊘ x)) → IsZero (fin s 0 (pos 0) ⊘ x)
unfolding div
div_at s nan t = absurd t
div_at s (inf u) t = (unlike s u, refl)
div_at s (fin u n d) t =
    pick IsZero (eqb n 0) nan (round binary64 (unlike s u) (0 * up (pos 0) * down d) (n * up d * down (pos 0))) refl
    (λ e. rounds (unlike s u) (0 * up (pos 0) * down d) (n * up d * down (pos 0)) (divisor_pos n d (pos 0) e) (zero-mul (down d))) t

mul_at : (s : Bool) (y : Float) → T (finite (fin s 0 (pos 0) ⊗ y)) → IsZero (fin s 0 (pos 0) ⊗ y)
unfolding mul
mul_at s nan t = absurd t
mul_at s (inf u) t = absurd t
mul_at s (fin u n d) t = rounds (unlike s u) (0 * up (pos 0) * (n * up d)) (down (pos 0) * down d) (mul-pos (lit< tt) (down_pos d)) (zero-mul (n * up d))

sub_at : (s t : Bool) → IsZero (fin s 0 (pos 0) ⊖ fin t 0 (pos 0))
unfolding sub add neg
sub_at true true = (false, refl)
sub_at true false = (true, refl)
sub_at false true = (false, refl)
sub_at false false = (false, refl)

pub zero_div : (z x : Float) → IsZero z → T (finite (z ⊘ x)) → IsZero (z ⊘ x)
zero_div z x (s, e) t = subst (λ v. IsZero (v ⊘ x)) (sym e) (div_at s x (subst (λ v. T (finite (v ⊘ x))) e t))

pub zero_times : (z y : Float) → IsZero z → T (finite (z ⊗ y)) → IsZero (z ⊗ y)
zero_times z y (s, e) t = subst (λ v. IsZero (v ⊗ y)) (sym e) (mul_at s y (subst (λ v. T (finite (v ⊗ y))) e t))

pub zero-less : (u v : Float) → IsZero u → IsZero v → IsZero (u ⊖ v)
zero-less u v (s, e) (t, f) = subst (λ x. IsZero (x ⊖ v)) (sym e) (subst (λ y. IsZero (fin s 0 (pos 0) ⊖ y)) (sym f) (sub_at s t))

-- ---- x / x

alike : (s : Bool) → unlike s s ≡ false
alike true = refl
alike false = refl

one_rounds : round binary64 false 1 1 ≡ unit
unfolding round of_bits
one_rounds = refl

pub self_quotient : (x : Float) → T (finite (x ⊘ x)) → x ⊘ x ≡ unit
unfolding div
self_quotient nan t = absurd t
self_quotient (inf s) t = absurd t
self_quotient (fin s m e) t =
    let N = m * up e * down e in
    pick (λ v. v ≡ unit) (eqb m 0) (cond (eqb m 0) nan (inf (unlike s s))) (round binary64 (unlike s s) N N) (either (eqb m 0) (unlike s s))
    (λ h. ap (λ u. round binary64 u N N) (alike s)
    ∙ round_same binary64 false N N 1 1 (divisor_pos m e e h) (lit< tt) (mul-one N ∙ sym (one-mul N)) ∙ one_rounds) t

-- ---- y - 1 * y

module _ (f : Format) where
  abbrev K : ℕ
  K = 2 ^ low f

  turned : (k p : ℕ) → k * p * k ≡ p * (k * k)
  turned k p = ap (λ z. z * k) (mul_comm k p) ∙ mul_assoc p k k

  -- 1 times y counts what y counts
  product_counts : (y : Float) (p n : ℕ) → T (fits f y) → Counts f y p n → Counts f (mul f one y) p n
  product_counts y p n h c =
      rounded_exact f (mul f one y) y (K * p) (K * n) (K * K) p n (mul-pos (pow_pos (low f)) (pow_pos (low f)))
      (rounded_shift f (mul f one y) (K * p + 0 * n) (K * n + 0 * p) (K * K) (K * p) (K * n) (mul-rounded f one y K 0 p n (one-counts f) c) (omega arith)) h c
      (let a = turned K p in let b = turned K n in omega arith)

  difference_counts : (y : Float) (p n : ℕ) → T (fits f y) → Counts f y p n → Counts f (sub f y (mul f one y)) 0 0
  difference_counts y p n h c =
      rounded_exact f (sub f y (mul f one y)) nought (p + n) (n + p) K 0 0 (pow_pos (low f)) (sub_rounded f y (mul f one y) p n p n c (product_counts y p n h c))
      (nought-fits f) (nought-counts f) (let e : (p + n) * K ≡ (n + p) * K = ap (λ z. z * K) (let q : p + n ≡ n + p = omega arith in q) in omega arith)

  none : (s : Bool) (g : ℕ) → Sgn s g 0 0 → g ≡ 0
  none true g e = omega arith
  none false g e = omega arith

  significand : (m : ℕ) (e : ℤ) (g : ℕ) → g ≡ 0 → m * up e * K ≡ g * down e → m ≡ 0
  significand zero e g h q = refl
  significand (suc m) e g h q =
      let p : 0 < suc m * up e * K = mul-pos (mul-pos (omega arith) (up_pos e)) (pow_pos (low f)) in
      let z : g * down e ≡ 0 = ap (λ t. t * down e) h ∙ zero-mul (down e) in
      absurd (omega arith)

  bare : (s : Bool) (m : ℕ) (e : ℤ) → m ≡ 0 → T (fits f (fin s m e)) → fin s m e ≡ fin s 0 (pos 0)
  unfolding fits
  bare s zero e h t = ap (λ d. fin s 0 d) (zero_exponent e (eqb→eq (up e * down e) 1 t))
  bare s (suc m) e h t = absurd (omega arith)

  counted-zero : (v : Float) → T (fits f v) → Counts f v 0 0 → IsZero v
  counted-zero nan h c = absurd c
  counted-zero (inf s) h c = absurd c
  counted-zero (fin s m e) h (g, q, r) = (s, bare s m e (significand m e g (none s g r) q) h)

pub less_itself : (y : Float) → Number binary64 y → IsZero (y ⊖ (unit ⊗ y))
unfolding of_bits
less_itself y N =
    let c = counts_of binary64 y N in
    counted-zero binary64 (y ⊖ (unit ⊗ y)) (sub-fits binary64 y (unit ⊗ y)) (difference_counts binary64 y c.0 c.1 N.held c.2)
