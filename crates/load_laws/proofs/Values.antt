-- What is drawn: a double of 0..1, or one less 0.5. It is a number within 2, so refusal 8 lets it pass, its pattern is a word and reads back as it is.
use mathlib.Core.Path.{◌≡◌}
use mathlib.Core.Bool.{true, false}
use Prim.Native.Nat.{ℕ, ◌*◌, ◌/◌, ◌^◌, ◌≤◌, ◌<◌, zero-le}
use native.Mathlib.Nat.{mul-le-mul_right}
use native.Mathlib.Omega.{arith}
use lib.Dec.{lit≤}
use lib.Ieee.{Float, binary64, fits, le, of_bits}
use lib.Ieee.Bits.{of_bits-to_bits, to_bits-lt}
use lib.Ieee.Fits.{round-fits}
use Rattle.model.specs.Real.{real, bits, half}
use Rattle.model.specs.Draw.{step, word_of, draw_word, unit_of, draw_f64}
use Rattle.model.specs.Refusal.{measurable}
use Rattle.model.specs.Load.{draw_constraint}
use Rattle.list_laws.proofs.Bools.{T_true, and_both}
use Rattle.float_laws.proofs.Units.{count→le}
use Rattle.float_laws.proofs.Constants.{nought, nought-counts, one, one-counts, exp2, minus_exp2}
use Rattle.float_laws.proofs.Magnitude.{Within, within_wider, sub_within}
use Rattle.float_laws.proofs.FromZero.{Upto, upto-within}
use Rattle.rng_util.proofs.Draws.{word_below}
use Rattle.rng_util.proofs.Unit.{unit-counts}
use Rattle.form_laws.specs.Writable.{Word}

abbrev pub Value : Float → Type 0
Value x = Within 1 x

-- ---- the draws

-- (word div 2^12) / 2^52
unit-upto : (w : ℕ) → w < 2 ^ 64 → Upto one (unit_of w)
unfolding unit_of
unit-upto w h =
    let c = unit-counts w h in
    let m : w / 2 ^ 12 ≤ 2 ^ 52 = omega arith in
    record {
      held = round-fits binary64 false (w / 2 ^ 12) (2 ^ 52);
      from = count→le binary64 nought (unit_of w) 0 (w / 2 ^ 12 * 2 ^ 1022) (nought-counts binary64) c zero-le;
      to = count→le binary64 (unit_of w) one (w / 2 ^ 12 * 2 ^ 1022) (2 ^ 52 * 2 ^ 1022) c (one-counts binary64) (mul-le-mul_right (2 ^ 1022) m);
    }

draw_within : (s : ℕ) → Within 0 (draw_f64 s).value
unfolding draw_f64 draw_word
draw_within s = upto-within 0 (unit_of (word_of (step s))) (unit-upto (word_of (step s)) (word_below (step s)))

half-within : Within 0 half
unfolding of_bits fits le
half-within = record { held = tt; low = tt; high = tt }

pub value-drawn : (s : ℕ) → Value (draw_f64 s).value
value-drawn s = within_wider 0 1 (draw_f64 s).value (lit≤ tt) (draw_within s)

pub constraint_drawn : (s : ℕ) → Value (draw_constraint s).value
unfolding draw_constraint
constraint_drawn s = sub_within 0 (draw_f64 s).value half (lit≤ tt) (draw_within s) half-within

-- ---- what such a value is

pub value-measurable : (x : Float) → Value x → measurable x ≡ true
unfolding measurable of_bits
value-measurable x v =
    let w = within_wider 1 1000 x (lit≤ tt) v in
    and_both _ _ (T_true (le (minus_exp2 1000) x) w.low) (T_true (le x (exp2 1000)) w.high)

pub value-word : (x : Float) → Value x → Word (bits x)
value-word x v = to_bits-lt binary64 x v.held

pub value-back : (x : Float) → Value x → real (bits x) ≡ x
value-back x v = of_bits-to_bits binary64 x v.held
