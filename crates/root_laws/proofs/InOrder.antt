-- Document 02, M-113: roots in order.
use mathlib.Core.Path.{◌≡◌, refl, subst}
use Prim.Native.Nat.{ℕ}
use lib.Dec.{T}
use lib.Ieee.{Float, binary64, fits, le, lt, sub, mul, div, of_bits}
use lib.Ieee.Fits.{mul-fits, div-fits}
use Rattle.list_laws.proofs.Bools.{by_cond}
use Rattle.float_laws.proofs.Order.{le_trans, lt→le, le_lt_trans}
use Rattle.float_laws.proofs.Constants.{nought, one}
use Rattle.model.specs.Real as model
use Rattle.model.specs.Real.{◌⊖◌, ◌⊗◌, ◌⊘◌, half, unit, two}
use Rattle.model.specs.Setting.{draw_unit, spread_argument, spread}
use Rattle.root_laws.specs.InOrder.{largest, top, last_draw, last_below_one, Within, RootsInOrder}
use Rattle.root_laws.proofs.Rising.{greatest, rising}
use Rattle.root_laws.proofs.Arguments.{Below, argument_rises}
use Rattle.root_laws.proofs.Draws.{draw_upto}

-- ---- by computing
record Known : Type 0 where
  half-below : T (lt half one)
  half-from : T (le nought half)
  nought-below : Below nought
  last-below : Below last_draw
  of-nought : spread_argument nought ≡ nought
  of-last : spread_argument last_draw ≡ largest
  past-last : spread_argument last_below_one ≡ top

known : Known
unfolding of_bits fits le lt sub mul div
known = record {
  half-below = tt;
  half-from = tt;
  nought-below = record { held = tt; from = tt; to = tt };
  last-below = record { held = tt; from = tt; to = tt };
  of-nought = refl;
  of-last = refl;
  past-last = refl;
}

-- ---- the argument
below : (u w : Float) → T (fits binary64 u) → T (le nought u) → T (le u w) → T (lt w one) → Below u
below u w U a h t = record { held = U; from = a; to = le_lt_trans u w one h t }

argument_from : (u : Float) → Below u → T (le nought (spread_argument u))
argument_from u U = subst (λ (x : Float). T (le x (spread_argument u))) known.of-nought (argument_rises nought u known.nought-below U U.from)

argument_within : (u : Float) → Within last_draw u → Within largest (spread_argument u)
unfolding of_bits
argument_within u W =
    let U = below u last_draw W.held W.from W.to known.last-below.to in
    record {
      held = by_cond (λ x. T (fits binary64 x)) (le u half) (two ⊗ u) (unit ⊘ (two ⊗ (unit ⊖ u))) (λ e. mul-fits binary64 two u) (λ e. div-fits binary64 unit (two ⊗ (unit ⊖ u)));
      from = argument_from u U;
      to = subst (λ (x : Float). T (le (spread_argument u) x)) known.of-last (argument_rises u last_draw U known.last-below W.to);
    }

-- ---- the spread
spread_rises : (u w : Float) (k : ℕ) → Below u → Below w → T (le u w) → T (le (spread u k) (spread w k))
unfolding spread of_bits
spread_rises u w k U W h = rising (spread_argument u) (spread_argument w) k (argument_from u U) (argument_rises u w U W h)

-- ---- the draws
drawn : (s : ℕ) → Within last_draw (draw_unit s).value
unfolding of_bits
drawn s = let d = draw_upto s in record { held = d.held; from = d.from; to = d.to }

drawn-below : (s : ℕ) → Below (draw_unit s).value
drawn-below s = let d = draw_upto s in below (draw_unit s).value last_draw d.held d.from d.to known.last-below.to

-- ---- what the statements ask of two draws
both : (u w : Float) → T (fits binary64 u) → T (fits binary64 w) → T (le nought u) → T (le u w) → T (lt w one) → Below u × Below w
both u w U W a h t = (below u w U a h t, record { held = W; from = le_trans nought u w a h; to = t })

from-half : (u : Float) → T (lt half u) → T (le nought u)
from-half u a = le_trans nought half u known.half-from (lt→le half u a)

-- THEOREM
pub roots_in_order : RootsInOrder
unfolding of_bits
roots_in_order = record {
  greatest = greatest;
  rising = rising;
  lower_half = λ u w k U W a h t. let p = both u w U W a h (le_lt_trans w half one t known.half-below) in spread_rises u w k p.0 p.1 h;
  upper_half = λ u w k U W a h t. let p = both u w U W (from-half u a) h t in spread_rises u w k p.0 p.1 h;
  argument_rising = λ u w U W a h t. let p = both u w U W a h t in argument_rises u w p.0 p.1 h;
  argument_within = argument_within;
  argument_of_last = known.of-last;
  argument_past_last = known.past-last;
  drawn = drawn;
  drawn_argument = λ s. argument_within (draw_unit s).value (drawn s);
  drawn_spread = λ s t k h. spread_rises (draw_unit s).value (draw_unit t).value k (drawn-below s) (drawn-below t) h;
}
