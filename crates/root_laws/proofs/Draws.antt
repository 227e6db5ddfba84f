-- What `f64()` gives, from any state of the generator, lies within 0 .. 1 - 2^-52.
use mathlib.Core.Path.{◌≡◌, refl}
use mathlib.Core.Bool.{false}
use Prim.Native.Nat.{ℕ, ◌-◌, ◌*◌, ◌/◌, ◌^◌, ◌≤◌, ◌<◌, zero-le}
use native.Mathlib.Nat.{mul-le-mul_right}
use native.Mathlib.Omega.{arith}
use lib.Ieee.{binary64, fits, le, add, sub, mul, of_bits}
use lib.Ieee.Fits.{round-fits}
use Rattle.float_laws.proofs.Units.{Number, Counts, count→le}
use Rattle.float_laws.proofs.Constants.{nought, nought-counts, nought-number, one, one_number}
use Rattle.float_laws.proofs.FromZero.{Upto, add-upto, mul-upto}
use Rattle.rng_util.proofs.Draws.{word_below}
use Rattle.rng_util.proofs.Unit.{upper-below, unit-counts}
use Rattle.model.specs.Draw.{step, word_of, draw_word, unit_of, draw_f64, f64_range}
use Rattle.model.specs.Setting.{draw_unit}
use Rattle.root_laws.specs.InOrder.{last_draw}

-- 1 - 2^-52 in units of 2^-1074
last-counts : Counts binary64 last_draw ((2 ^ 52 - 1) * 2 ^ 1022) 0
unfolding of_bits
last-counts = ((2 ^ 52 - 1) * 2 ^ 1022, refl, refl)

-- (word div 2^12) / 2^52
word-upto : (w : ℕ) → w < 2 ^ 64 → Upto last_draw (unit_of w)
unfolding unit_of
word-upto w h =
    let b = upper-below w h in
    let c = unit-counts w h in
    let m : w / 2 ^ 12 ≤ 2 ^ 52 - 1 = omega arith in
    record {
      held = round-fits binary64 false (w / 2 ^ 12) (2 ^ 52);
      from = count→le binary64 nought (unit_of w) 0 (w / 2 ^ 12 * 2 ^ 1022) (nought-counts binary64) c zero-le;
      to = count→le binary64 (unit_of w) last_draw (w / 2 ^ 12 * 2 ^ 1022) ((2 ^ 52 - 1) * 2 ^ 1022) c last-counts (mul-le-mul_right (2 ^ 1022) m);
    }

-- 0 + draw × 1, each operation rounded
record Known : Type 0 where
  last-number : Number binary64 last_draw
  one-upto : Upto one one
  nought-upto : Upto nought nought
  last_times_one : mul binary64 last_draw one ≡ last_draw
  nought_plus_last : add binary64 nought last_draw ≡ last_draw

known : Known
unfolding of_bits fits le mul add
known = record {
  last-number = record { held = tt; finite = tt };
  one-upto = record { held = tt; from = tt; to = tt };
  nought-upto = record { held = tt; from = tt; to = tt };
  last_times_one = refl;
  nought_plus_last = refl;
}

pub draw_upto : (s : ℕ) → Upto last_draw (draw_unit s).value
unfolding f64_range draw_f64 draw_word of_bits sub
draw_upto s =
    let d = unit_of (word_of (step s)) in
    let D = word-upto (word_of (step s)) (word_below (step s)) in
    let l = known.last-number in
    let m = mul-upto last_draw one d one l (one_number binary64) D known.one-upto last_draw known.last_times_one in
    add-upto nought last_draw nought (mul binary64 d one) (nought-number binary64) l known.nought-upto m last_draw known.nought_plus_last
