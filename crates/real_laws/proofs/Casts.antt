-- Casts: a double beyond the range of 64 bits.
use mathlib.Core.Path.{◌≡◌, refl, ap, subst}
use mathlib.Core.Bool.{Bool, true, false, not}
use Prim.Native.Nat.{ℕ, ◌-◌, ◌*◌, ◌/◌, ◌^◌, ◌≤◌, ◌<◌, min}
use native.Mathlib.Nat.{le-div_iff_mul-le}
use native.Mathlib.Omega.{arith}
use lib.Dec.{T}
use lib.IntN.{ℤ, pos, negsuc, neg_ℤ}
use lib.Ieee.{Float, nan, inf, fin, up, down, le, lt, is_nan, to_signed}
use lib.Ieee.Fits.{down_pos}
use Rattle.float_laws.proofs.Units.{→sle, →slt}
use Rattle.float_laws.proofs.Order.{nlt→le, nle→lt, le_not_nan}
use Rattle.float_laws.proofs.Constants.{exp2, minus_exp2}
use Rattle.list_laws.proofs.Bools.{true_T, false_T}
use Rattle.real_laws.proofs.Nan.{no_minus}

whole : (a d : ℕ) → 0 < d → 1 * 2 ^ 63 * d ≤ a * 1 → 2 ^ 63 ≤ a / d
whole a d D h = (le-div_iff_mul-le D).1 (omega arith)

at_top : (x : Float) → T (le (exp2 63) x) → pos (2 ^ 63 - 1) ≡ to_signed 63 x
unfolding to_signed le
at_top nan h = absurd h
at_top (inf true) h = absurd h
at_top (inf false) h = refl
at_top (fin true m e) h = absurd (no_minus 63 m e h)
at_top (fin false m e) h =
    let a = whole (m * up e) (down e) (down_pos e) (→sle false (1 * 2 ^ 63 * down e) false (m * up e * 1) h) in
    ap pos (omega arith)

at_bottom : (x : Float) → T (lt x (minus_exp2 63)) → negsuc (2 ^ 63 - 1) ≡ to_signed 63 x
unfolding to_signed lt
at_bottom nan h = absurd h
at_bottom (inf true) h = refl
at_bottom (inf false) h = absurd h
at_bottom (fin true m e) h =
    let l = →slt true (m * up e * 1) true (1 * 2 ^ 63 * down e) h in
    let a = whole (m * up e) (down e) (down_pos e) (omega arith) in
    ap (λ (n : ℕ). neg_ℤ (pos n)) (least (m * up e / down e) a)
  where
    least : (n : ℕ) → 2 ^ 63 ≤ n → 2 ^ 63 ≡ min n (2 ^ 63)
    least n h = omega arith
at_bottom (fin false m e) h = absurd h

fin_not_nan : (s : Bool) (m : ℕ) (e : ℤ) → T (not (is_nan (fin s m e)))
unfolding is_nan
fin_not_nan s m e = tt

-- by the tests that the code makes
pub above_range : (x : Float) → le (minus_exp2 63) x ≡ true → lt x (exp2 63) ≡ false → pos (2 ^ 63 - 1) ≡ to_signed 63 x
above_range x h k = at_top x (nlt→le x (exp2 63) (le_not_nan (minus_exp2 63) x (true_T _ h)).1 (fin_not_nan false 1 (pos 63)) (false_T _ k))

pub below_range : (x : Float) → le (minus_exp2 63) x ≡ false → T (not (is_nan x)) → negsuc (2 ^ 63 - 1) ≡ to_signed 63 x
below_range x h k = at_bottom x (nle→lt x (minus_exp2 63) k (fin_not_nan true 1 (pos 63)) (subst T h))
