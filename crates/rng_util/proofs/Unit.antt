-- The draw of 0..1: k / 2^52 is a double for every k below 2^52, and the code's quotient is that double.
use mathlib.Core.Path.{◌≡◌, ap, ◌∙◌}
use mathlib.Core.Bool.{true, false, true≢false}
use Prim.Native.Nat.{ℕ, ◌*◌, ◌/◌, ◌^◌, ◌<◌}
use native.Mathlib.Nat.{le_trans, le_of_lt, one-mul, mul_assoc, mul_comm, mul-pos}
use native.Mathlib.Omega.{arith}
use lib.IntN.{pos}
use lib.Dec.{lit<, lit≤}
use lib.Pow.{pow_pos}
use lib.Ieee.{Float, nan, inf, fin, binary64, up, down, round, div, of_int}
use lib.Ieee.Fits.{down_pos}
use lib.Ieee.Exact.{HasValue}
use lib.Ieee.Back.{round_whole}
use lib.Ieee.Scale.{round_same}
use Rattle.float_laws.proofs.Units.{Counts}
use Rattle.float_laws.proofs.Rounding.{div_is}
use Rattle.float_laws.proofs.InRange.{draw_counts}
use Rattle.float_laws.proofs.Constants.{exp2}
use Rattle.model.specs.Draw.{unit_of}

-- a whole number over a power of two
over : (x : Float) (k j : ℕ) → HasValue x false k 1 → div binary64 x (exp2 j) ≡ round binary64 false k (2 ^ j)
over nan k j h = absurd h
over (inf s) k j h = absurd h
over (fin true m e) k j h = absurd (true≢false h.0)
over (fin false m e) k j h =
    div_is binary64 false m e 1 (pos j) (lit< tt)
    ∙ round_same binary64 false (m * up e * 1) (1 * 2 ^ j * down e) k (2 ^ j) (mul-pos (mul-pos (lit< tt) (pow_pos j)) (down_pos e)) (pow_pos j)
    (ap (λ (z : ℕ). z * 2 ^ j) h.1 ∙ cross k (down e) (2 ^ j))
  where
    cross : (k d p : ℕ) → k * d * p ≡ k * (1 * p * d)
    cross k d p = simp (mul_assoc, mul_comm, one-mul)

pub quotient : (k : ℕ) → k < 2 ^ 52 → div binary64 (of_int binary64 (pos k)) (exp2 52) ≡ round binary64 false k (2 ^ 52)
unfolding of_int
quotient k h = over (round binary64 false k 1) k 52 (round_whole binary64 false k (le_trans (le_of_lt h) (lit≤ tt)))

-- the 52 upper digits of a word
pub upper-below : (w : ℕ) → w < 2 ^ 64 → w / 2 ^ 12 < 2 ^ 52
upper-below w h = omega arith

-- the draw in units of 2^-1074
pub unit-counts : (w : ℕ) → w < 2 ^ 64 → Counts binary64 (unit_of w) (w / 2 ^ 12 * 2 ^ 1022) 0
unfolding unit_of
unit-counts w h = draw_counts (w / 2 ^ 12) (upper-below w h)
