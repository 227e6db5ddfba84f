-- "For other v, in breeding never above 2^51": every v that crossover and mutation hand to R lies within 0..2^51.
use Prim.Native.Nat.{ℕ, suc, ◌-◌}
use mathlib.Core.Path.{◌≡◌, refl, subst}
use mathlib.Core.Bool.{true, false, cond}
use native.Mathlib.Omega.{arith}
use lib.Dec.{T, lit≤, leb→le}
use lib.IntN.{ℤ, pos, negsuc}
use lib.Signed.{le_z, ◌≤ℤ◌, le_z_yes}
use lib.Ieee.{Float, binary64, fits, is_nan, of_bits, of_int, add, sub, mul, le, lt}
use lib.Ieee.Fits.{of_int-fits}
use Rattle.list_laws.proofs.Bools.{by_bool, true_T, false_T, and_t}
use Rattle.float_laws.proofs.Units.{Number}
use Rattle.float_laws.proofs.Order as order
use Rattle.float_laws.proofs.Rounding.{round_sle}
use Rattle.float_laws.proofs.Constants as constants
use Rattle.float_laws.proofs.Constants.{one, one_number, exp2, minus_exp2}
use Rattle.float_laws.proofs.Arithmetic.{itself, sub_from_zero}
use Rattle.float_laws.proofs.Magnitude.{exp2-below, within-number, sub_within}
use Rattle.root_laws.specs.InOrder.{last_draw}
use Rattle.root_laws.proofs.Draws.{draw_upto}
use Rattle.root_laws.proofs.InOrder.{roots_in_order}
use Rattle.model.specs.declared.Distribution.TheVariants as dist
use Rattle.model.specs.declared.FloatDistribution.{FloatDistribution}
use Rattle.model.specs.declared.IntDistribution.{IntDistribution}
use Rattle.model.specs.declared.ParamValue.TheVariants as value
use Rattle.model.specs.Real.{◌⊖◌, ◌⊘◌, nought, half, within, of_whole}
use Rattle.model.specs.Setting.{min_whole, max_whole, valid_dimension, in_bounds, draw_unit, spread_argument, below_argument, above_argument}
use Rattle.settings.proofs.Valid.{float_bounds, int_bounds}
use Rattle.settings.proofs.InBounds.{Held}
use Rattle.variation_laws.proofs.Children.{Inside, inside, float_inside}
use Rattle.float_laws.proofs.FromZero.{Upto, number, upto-wider, sub_upto, add-upto, mul-upto, one_times_one, rest-upto, share}
use Rattle.real_laws.proofs.Powers.{power-upto}

-- ---- the arguments

-- what mutation hands to R for a draw u
abbrev pub mutation_argument : Float → Float → Float → Float → ℕ → Float → Float
mutation_argument x low high range k u = cond (lt u half) (below_argument x low range k u) (above_argument x high range k u)

-- ---- crossover

-- THEOREM for crossover
pub spread_argument_lem : (s : ℕ) → Upto (exp2 51) (spread_argument (draw_unit s).value)
unfolding of_bits
spread_argument_lem s = let w = roots_in_order.drawn_argument s in record { held = w.held; from = w.from; to = w.to }

-- ---- mutation

-- what is known of 1/2, 1 and 2 by computing
abbrev half_of : Float
half_of = exp2-below 0

abbrev two_of : Float
two_of = exp2 1

record Known : Type 0 where
  half-number : Number binary64 half_of
  two-number : Number binary64 two_of
  two-upto : Upto two_of two_of
  two-top : T (le two_of (exp2 51))
  last_one : T (le last_draw one)
  two_halves : mul binary64 two_of half_of ≡ one
  one-less-half : sub binary64 one half_of ≡ half_of
  one_and_one : add binary64 one one ≡ two_of

known : Known
unfolding of_bits fits le mul sub add
known = record {
  half-number = record { held = tt; finite = tt };
  two-number = record { held = tt; finite = tt };
  two-upto = record { held = tt; from = tt; to = tt };
  two-top = tt;
  last_one = tt;
  two_halves = refl;
  one-less-half = refl;
  one_and_one = refl;
}

-- a + b × c, all within 0..1
sum_argument : (a b c : Float) → Upto one a → Upto one b → Upto one c → Upto (exp2 51) (add binary64 a (mul binary64 b c))
sum_argument a b c A B C =
    upto-wider two_of (exp2 51) _ known.two-top
    (add-upto one one a (mul binary64 b c) (one_number binary64) (one_number binary64) A (mul-upto one one b c (one_number binary64) (one_number binary64) B C one one_times_one) two_of known.one_and_one)

twice-upto : (a : Float) → Upto half_of a → Upto one (mul binary64 two_of a)
twice-upto a A = mul-upto two_of half_of two_of a known.two-number known.half-number known.two-upto A one known.two_halves

module _ (low high x : Float) (i : Inside low high x) (some : le (high ⊖ low) nought ≡ false) where
  ordered : T (le low high)
  ordered = order.le_trans low x high i.above i.below

  LO : Number binary64 low
  LO = within-number 53 low i.low-within

  HI : Number binary64 high
  HI = within-number 53 high i.high_within

  X : Number binary64 x
  X = within-number 53 x i.within

  range : Number binary64 (high ⊖ low)
  range = within-number 54 (high ⊖ low) (sub_within 53 high low (lit≤ tt) i.high_within i.low-within)

  range_above : T (lt constants.nought (high ⊖ low))
  unfolding of_bits
  range_above = order.nle→lt constants.nought (high ⊖ low) constants.nought-not-nan
      (order.le_not_nan constants.nought (high ⊖ low) (sub_from_zero binary64 high low HI LO ordered)).1 (subst T some)

  -- how far x lies from each end, as a share of the range
  low_share : Upto one ((x ⊖ low) ⊘ (high ⊖ low))
  low_share = share (x ⊖ low) (high ⊖ low) range (sub_upto x low high low (high ⊖ low) X LO HI LO i.above i.below (itself low LO) refl) range_above

  high_share : Upto one ((high ⊖ x) ⊘ (high ⊖ low))
  high_share = share (high ⊖ x) (high ⊖ low) range (sub_upto high x high low (high ⊖ low) HI X HI LO i.below (itself high HI) i.above refl) range_above

  module _ (k : ℕ) (u : Float) (d : Upto one u) where
    below_argument_lem : lt u half ≡ true → Upto (exp2 51) (below_argument x low (high ⊖ low) k u)
    unfolding of_bits
    below_argument_lem e =
        let t = twice-upto u (record { held = d.held; from = d.from; to = order.lt→le u half_of (true_T _ e) }) in
        sum_argument _ _ _ t (rest-upto _ t) (power-upto _ (rest-upto _ low_share) (k - 1))

    above_argument_lem : lt u half ≡ false → Upto (exp2 51) (above_argument x high (high ⊖ low) k u)
    unfolding of_bits is_nan
    above_argument_lem e =
        let U = number one u (one_number binary64) d in
        let h = order.nlt→le u half_of (order.le_not_nan u one d.to).0 tt (false_T _ e) in
        let I = one_number binary64 in
        let H = known.half-number in
        let r = sub_upto one u one half_of half_of I U I H d.to (itself one I) h known.one-less-half in
        let p = sub_upto u half_of one half_of half_of U H I H h d.to (itself half_of H) known.one-less-half in
        sum_argument _ _ _ (twice-upto _ r) (twice-upto _ p) (power-upto _ (rest-upto _ high_share) (k - 1))

  -- THEOREM for mutation; where the range is 0 or less nothing is handed to R
  pub mutation_argument_lem : (k s : ℕ) → Upto (exp2 51) (mutation_argument x low high (high ⊖ low) k (draw_unit s).value)
  mutation_argument_lem k s =
      let u = (draw_unit s).value in
      let d = upto-wider last_draw one u known.last_one (draw_upto s) in
      by_bool (lt u half) (λ e. rw e (below_argument_lem k u d e)) (λ e. rw e (above_argument_lem k u d e))

-- ---- of dimensions

pub float_argument : (d : FloatDistribution) (x : Float) → Held (dist.Float d) → valid_dimension (dist.Float d) ≡ true → T (fits binary64 x) → in_bounds (dist.Float d) (value.Float x) ≡ true
    → le (d.high ⊖ d.low) nought ≡ false → (k s : ℕ) → Upto (exp2 51) (mutation_argument x d.low d.high (d.high ⊖ d.low) k (draw_unit s).value)
unfolding in_bounds
float_argument d x h v f b some = mutation_argument_lem d.low d.high x (float_inside d x h (float_bounds d v) f b) some

-- whole numbers as doubles keep their order
whole_mono : (a b : ℤ) → a ≤ℤ b → T (le (of_whole a) (of_whole b))
unfolding of_int
whole_mono (pos a) (pos b) h = let l = leb→le a b h.le in round_sle binary64 false a 1 false b 1 (omega arith) (omega arith) (omega arith)
whole_mono (pos a) (negsuc b) h = absurd h.le
whole_mono (negsuc a) (pos b) h = round_sle binary64 true (suc a) 1 false b 1 (omega arith) (omega arith) tt
whole_mono (negsuc a) (negsuc b) h = let l = leb→le b a h.le in round_sle binary64 true (suc a) 1 true (suc b) 1 (omega arith) (omega arith) (omega arith)

ends : (of_whole min_whole ≡ minus_exp2 53) × (of_whole max_whole ≡ exp2 53)
unfolding of_int
ends = (refl, refl)

pub int_argument : (d : IntDistribution) (n : ℤ) → valid_dimension (dist.Int d) ≡ true → in_bounds (dist.Int d) (value.Int n) ≡ true → le (of_whole d.high ⊖ of_whole d.low) nought ≡ false
    → (k s : ℕ) → Upto (exp2 51) (mutation_argument (of_whole n) (of_whole d.low) (of_whole d.high) (of_whole d.high ⊖ of_whole d.low) k (draw_unit s).value)
unfolding in_bounds
int_argument d n v b some =
    let e = int_bounds d v in
    let p = and_t (le_z d.low n) (le_z n d.high) b in
    mutation_argument_lem (of_whole d.low) (of_whole d.high) (of_whole n)
    (inside (of_whole d.low) (of_whole d.high) (of_whole n) (of_int-fits binary64 d.low) (of_int-fits binary64 d.high) (of_int-fits binary64 n)
    (subst (λ (z : Float). T (le z (of_whole d.low))) ends.0 (whole_mono min_whole d.low e.span.1))
    (subst (λ (z : Float). T (le (of_whole d.high) z)) ends.1 (whole_mono d.high max_whole e.span.2))
    (whole_mono d.low n (le_z_yes p.0))
    (whole_mono n d.high (le_z_yes p.1))) some
