-- `sqrt_of` in units, 2 ^ -1074 each: what a finite double has of them (`units_of_is`), and what its root has (`root_units`).
use mathlib.Core.Path.{◌≡◌, refl, sym, ap, ◌∙◌, subst}
use Prim.Native.Nat.{ℕ, zero, suc, ◌+◌, ◌*◌, ◌/◌, ◌^◌, ◌<◌}
use native.Mathlib.Nat.{lt_irrefl, eq_of_mul-eq-mul_right, zero-add, zero-mul, mul-div_cancel, mul-pos, zero-lt-suc}
use native.Mathlib.Omega.{arith}
use mathlib.Core.Bool.{Bool, true, false, true≢false}
use lib.IntN.{ℤ}
use lib.Pow.{pow_pos}
use lib.Ieee.{Float, nan, inf, fin, binary64, up, down, size}
use lib.Ieee.Fits.{up_pos, down_pos}
use lib.Ieee.Exact.{HasValue, odd_sign}
use lib.Ieee.Positive.{first_pos}
use Rattle.float_laws.proofs.Units.{Sgn, Counts}
use Rattle.float_laws.proofs.Rounding.{value-count}
use Rattle.model.specs.Numbers.{near_root, dropped, rooted, unit_count, sqrt_of}

-- ---- the count of a double that is finite is what `unit_count` works out
pub units_of_is : (s : Bool) (m : ℕ) (e : ℤ) (g : ℕ) → HasValue (fin s m e) s g (2 ^ 1074) → unit_count m e ≡ g
units_of_is s m e g h = ap (λ (x : ℕ). x / down e) h.1 ∙ mul-div_cancel g (down_pos e)

-- ---- the count of the root of n
abbrev pub root_units : ℕ → ℕ
root_units n = near_root (n / 2 ^ (2 * dropped n)) * 2 ^ dropped n

pub rooted-counted : (n : ℕ) → HasValue (rooted n) false (root_units n) (2 ^ 1074)
unfolding rooted
rooted-counted n = odd_sign 53 false (near_root (n / 2 ^ (2 * dropped n))) (dropped n) 1074

pub root_units-zero : root_units 0 ≡ 0
unfolding near_root size
root_units-zero = refl

-- a zero has no units
no_units : (e : ℤ) (g : ℕ) → 0 * up e * 2 ^ 1074 ≡ g * down e → g ≡ 0
no_units e g u = eq_of_mul-eq-mul_right (down e) (down_pos e) g 0 (sym u ∙ ap (λ (x : ℕ). x * 2 ^ 1074) (zero-mul (up e)) ∙ zero-mul (2 ^ 1074) ∙ sym (zero-mul (down e)))

-- ---- `sqrt_of` of g units
pub sqrt_of_units : (v : Float) (g : ℕ) → HasValue v false g (2 ^ 1074) → 0 < g → sqrt_of v ≡ rooted (g * 2 ^ 1074)
unfolding sqrt_of
sqrt_of_units nan g h p = absurd h
sqrt_of_units (inf s) g h p = absurd h
sqrt_of_units (fin true m e) g h p = absurd (true≢false h.0)
sqrt_of_units (fin false zero e) g h p = absurd (lt_irrefl 0 (subst (λ (x : ℕ). 0 < x) (no_units e g h.1) p))
sqrt_of_units (fin false (suc m) e) g h p = ap (λ (n : ℕ). rooted (n * 2 ^ 1074)) (units_of_is false (suc m) e g h)

pub root_valued : (v : Float) (g : ℕ) → HasValue v false g (2 ^ 1074) → 0 < g → HasValue (sqrt_of v) false (root_units (g * 2 ^ 1074)) (2 ^ 1074)
root_valued v g h p = subst (λ (u : Float). HasValue u false (root_units (g * 2 ^ 1074)) (2 ^ 1074)) (sym (sqrt_of_units v g h p)) (rooted-counted (g * 2 ^ 1074))

-- ---- the count of `sqrt_of` of a double from 0 on
zero-count : (s : Bool) (e : ℤ) (g : ℕ) → Counts binary64 (fin s 0 e) g 0 → g ≡ 0
zero-count s e g (n, u, i) = by s g n i (no_units e n u)
  where
    by : (s : Bool) (g n : ℕ) → Sgn s n g 0 → n ≡ 0 → g ≡ 0
    by true g n i z = omega arith
    by false g n i z = omega arith

-- what is no zero has some
some-count : (m : ℕ) (e : ℤ) (n : ℕ) → suc m * up e * 2 ^ 1074 ≡ n * down e → 0 < n
some-count m e n u = first_pos n (down e) (subst (λ (k : ℕ). 0 < k) u (mul-pos (mul-pos (zero-lt-suc m) (up_pos e)) (pow_pos 1074)))

pub root_counts : (x : Float) (g : ℕ) → Counts binary64 x g 0 → Counts binary64 (sqrt_of x) (root_units (g * 2 ^ 1074)) 0
unfolding sqrt_of
root_counts nan g c = absurd c
root_counts (inf s) g c = absurd c
root_counts (fin s zero e) g c =
    let z = zero-count s e g c in
    subst (λ (k : ℕ). Counts binary64 (fin s 0 e) k 0) (z ∙ sym (ap root_units (ap (λ (k : ℕ). k * 2 ^ 1074) z ∙ zero-mul (2 ^ 1074)) ∙ root_units-zero)) c
root_counts (fin false (suc m) e) g (n, u, i) =
    let x = fin false (suc m) e in
    let v : HasValue x false g (2 ^ 1074) = (refl, u ∙ ap (λ (k : ℕ). k * down e) (sym (i ∙ zero-add n))) in
    value-count binary64 (sqrt_of x) (root_units (g * 2 ^ 1074)) (root_valued x g v (some-count m e g v.1))
root_counts (fin true (suc m) e) g (n, u, i) = absurd (none g n (some-count m e n u) i)
  where
    none : (g n : ℕ) → 0 < n → 0 ≡ g + n → ⊥
    none g n p e = omega arith
