-- What holds of every draw, whatever the state: a draw below n is below n, a draw from a to b lies there.
use mathlib.Core.Path.{◌≡◌}
use Prim.Native.Nat.{ℕ, ◌/◌, ◌^◌, ◌<◌}
use native.Mathlib.Nat.{mod-lt}
use native.Mathlib.Omega.{arith}
use lib.IntN.{ℤ}
use lib.Signed.{◌≤ℤ◌}
use lib.Dec.{T}
use lib.Ieee.{Float, binary64, le, fits}
use mir.Syntax.{w64}
use mir.Val.{SFits}
use Rattle.float_laws.proofs.Constants.{exp2, minus_exp2}
use Rattle.float_laws.proofs.Magnitude.{within-number, within_wider, ends-within}
use Rattle.float_laws.proofs.InRange as in-range
use Rattle.model.specs.Real.{within}
use Rattle.model.specs.Draw.{drawn, step, word_of, draw_word, unit_of, draw_f64, draw_usize, draw_i64, f64_range}
use Rattle.list_laws.proofs.Draws.{drawn-value}
use Rattle.list_laws.proofs.Bools.{and_i}
use Rattle.rng_util.specs.Span.{Spanned}
pub use Rattle.rng_lent.proofs.Words.{word_below}
use Rattle.rng_util.proofs.Unit.{upper-below, unit-counts}
use Rattle.rng_util.proofs.Span.{rest_le, pick_low, pick_high}

pub draw_usize-below : (n s : ℕ) → 0 < n → (draw_usize n s).value < n
unfolding draw_usize
draw_usize-below n s h = mod-lt (draw_word s).value h

-- the same of what a call of `draw_usize` hands out
pub drawn-below : (n s k t : ℕ) → 0 < n → drawn k t ≡ draw_usize n s → k < n
drawn-below n s k t h e = omega (arith, drawn-value e, draw_usize-below n s h)

pub draw_i64-within : (a b : ℤ) (s : ℕ) → SFits w64 a → SFits w64 b → Spanned a b → (a ≤ℤ (draw_i64 a b s).value) × ((draw_i64 a b s).value ≤ℤ b)
unfolding draw_i64
draw_i64-within a b s fa fb h = let l = rest_le a b fa fb h (draw_word s).value in (pick_low a b fa fb h _ l, pick_high a b fa fb h _ l)

-- "The result lies in low..high", for bounds of at most 2^53 in magnitude
pub f64_range-within : (low high : Float) (s : ℕ) → T (fits binary64 low) → T (fits binary64 high) → T (le low high) → T (le (minus_exp2 53) low) → T (le high (exp2 53))
    → T (within low high (f64_range low high s).value)
unfolding f64_range draw_f64 draw_word unit_of
f64_range-within low high s fl fh h kl kh =
    let w = word_of (step s) in
    let b = word_below (step s) in
    let e = ends-within 53 low high fl fh h kl kh in
    let l = within_wider 53 1000 low (omega arith) e.0 in
    let g = within_wider 53 1000 high (omega arith) e.1 in
    let d = in-range.drawn low high (unit_of w) (w / 2 ^ 12) (within-number 1000 low l) (within-number 1000 high g) h l.low g.high (upper-below w b) (unit-counts w b) in
    and_i (le low _) (le _ high) d.0 d.1
