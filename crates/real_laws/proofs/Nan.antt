-- NaN, the infinity and the sign by the order.
use mathlib.Core.Path.{◌≡◌, refl, sym, subst}
use mathlib.Core.Logic.{◌⊎◌, inl, inr}
use mathlib.Core.Bool.{true, false, not, true≢false}
use Prim.Native.Nat.{ℕ, ◌*◌, ◌^◌}
use native.Mathlib.Nat.{mul-pos}
use lib.Dec.{T, lit<}
use lib.IntN.{ℤ}
use lib.Pow.{pow_pos}
use lib.Ieee.{Float, nan, inf, fin, up, down, le, lt, ne, is_nan}
use lib.Ieee.Compare.{differs_from_itself}
use lib.Ieee.Fits.{down_pos}
use lib.Ieee.Scale.{finite}
use Rattle.list_laws.proofs.Bools.{true_T}
use Rattle.float_laws.proofs.Units.{no_sum, →sle}
use Rattle.float_laws.proofs.Constants.{nought, exp2}

-- ---- a NaN is what differs from itself
pub ne_nan : (x : Float) → ne x x ≡ true → x ≡ nan
ne_nan x h = differs_from_itself x (true_T _ h)

pub eq_not_nan : (x : Float) → ne x x ≡ false → T (not (is_nan x))
unfolding ne is_nan
eq_not_nan nan h = absurd (true≢false h)
eq_not_nan (inf s) h = tt
eq_not_nan (fin s m e) h = tt

pub is_nan_lem : (x : Float) → is_nan x ≡ true → x ≡ nan
unfolding is_nan
is_nan_lem nan h = refl
is_nan_lem (inf s) h = absurd (true≢false (sym h))
is_nan_lem (fin s m e) h = absurd (true≢false (sym h))

-- ---- what is from zero up is the infinity, or finite
pub rise : (x : Float) → T (le nought x) → (x ≡ inf false) ⊎ T (finite x)
unfolding le
rise nan h = absurd h
rise (inf true) h = absurd h
rise (inf false) h = inl refl
rise (fin s m e) h = inr tt

-- nothing but a NaN is above the infinity, and what is finite is below it
under_inf : (x : Float) → T (not (is_nan x)) → T (le x (inf false))
unfolding le is_nan
under_inf nan h = absurd h
under_inf (inf true) h = tt
under_inf (inf false) h = tt
under_inf (fin s m e) h = tt

pub below_inf : (x y : Float) → T (not (is_nan x)) → y ≡ inf false → T (le x y)
below_inf x y h e = subst (λ (z : Float). T (le x z)) (sym e) (under_inf x h)

pub finite_below : (x : Float) → T (finite x) → T (lt x (inf false))
unfolding lt
finite_below nan F = absurd F
finite_below (inf s) F = absurd F
finite_below (fin s m e) F = tt

-- ---- nothing with the sign set is at least a power of two
pub no_minus : (k m : ℕ) (e : ℤ) → T (le (exp2 k) (fin true m e)) → ⊥
unfolding le
no_minus k m e h = no_sum (1 * 2 ^ k * down e) (m * up e * 1) (mul-pos (mul-pos (lit< tt) (pow_pos k)) (down_pos e)) (→sle false (1 * 2 ^ k * down e) true (m * up e * 1) h)
