-- What the spread takes the root of, 2u up to one half and 1 / (2 (1 - u)) above, rises with u over the whole of 0 ≤ u < 1.
use mathlib.Core.Path.{◌≡◌, refl, subst}
use mathlib.Core.Logic.{inl, inr}
use mathlib.Core.Bool.{false}
use Prim.Native.Nat.{suc}
use native.Mathlib.Omega.{arith}
use lib.Dec.{T}
use lib.Ieee.{Float, binary64, fits, le, lt, sub, mul, div, of_bits, to_bits}
use Rattle.list_laws.proofs.Bools.{by_bool, true_T, no_pass}
use Rattle.float_laws.proofs.Units.{Number}
use Rattle.float_laws.proofs.Order.{le_trans, lt→le, lt_le_trans, nle→lt, le_not_nan}
use Rattle.float_laws.proofs.Patterns.{bits→le, lt→bits}
use Rattle.float_laws.proofs.Constants.{nought, one, one_number, nought_le_one, exp2}
use Rattle.float_laws.proofs.Arithmetic.{itself, sub_mono, mul_mono, div_mono_right}
use Rattle.float_laws.proofs.FromZero.{Upto, number, mul-upto, rest-upto}
use Rattle.float_laws.proofs.Magnitude.{exp2-below}
use Rattle.model.specs.Real.{half}
use Rattle.model.specs.Setting.{spread_argument}
use Rattle.root_laws.specs.InOrder.{last_below_one}
use Rattle.root_laws.proofs.Rising.{signs}

-- ---- what is known by computing of 1/2, 1, 2, 1 - 2^-53, and 2^-53, which 1 leaves of it
abbrev half_of : Float
half_of = exp2-below 0

abbrev two_of : Float
two_of = exp2 1

abbrev step : Float
step = exp2-below 52

record Known : Type 0 where
  half-number : Number binary64 half_of
  two-number : Number binary64 two_of
  last-number : Number binary64 last_below_one
  step-number : Number binary64 step
  two-upto : Upto two_of two_of
  step_from : T (le nought step)
  half-from : T (le nought half_of)
  half-below : T (lt half_of one)
  last-from : T (le nought last_below_one)
  above : T (lt nought (exp2-below 51))
  last_leaves : sub binary64 one last_below_one ≡ step
  two_steps : mul binary64 two_of step ≡ exp2-below 51
  two_ones : mul binary64 two_of one ≡ two_of
  two_halves : mul binary64 two_of half_of ≡ one
  half_over : div binary64 one (mul binary64 two_of (sub binary64 one half_of)) ≡ one
  before-one : suc (to_bits binary64 last_below_one) ≡ to_bits binary64 one

known : Known
unfolding of_bits to_bits fits le lt sub mul div
known = record {
  half-number = record { held = tt; finite = tt };
  two-number = record { held = tt; finite = tt };
  last-number = record { held = tt; finite = tt };
  step-number = record { held = tt; finite = tt };
  two-upto = record { held = tt; from = tt; to = tt };
  step_from = tt;
  half-from = tt;
  half-below = tt;
  last-from = tt;
  above = tt;
  last_leaves = refl;
  two_steps = refl;
  two_ones = refl;
  two_halves = refl;
  half_over = refl;
  before-one = refl;
}

-- ---- up to one half
doubled_rises : (u w : Float) → Number binary64 u → Number binary64 w → T (le nought u) → T (le u w) → T (le (mul binary64 two_of u) (mul binary64 two_of w))
doubled_rises u w U W a h =
    let T2 = known.two-number in
    mul_mono binary64 two_of two_of u w T2 T2 U W known.two-upto.from a known.two-upto.to h

-- ---- above one half, and of every double of 0 ≤ u < 1
pub record Below (u : Float) : Type 0 where
  pub held : T (fits binary64 u)
  pub from : T (le nought u)
  pub to : T (lt u one)

-- twice what 1 leaves of u, and 1 over it
abbrev left : Float → Float
left u = mul binary64 two_of (sub binary64 one u)

abbrev over : Float → Float
over u = div binary64 one (left u)

module _ (u : Float) (U : Below u) where
  in_unit_lem : Upto one u
  in_unit_lem = record { held = U.held; from = U.from; to = lt→le u one U.to }

  below-number : Number binary64 u
  below-number = number one u (one_number binary64) in_unit_lem

  -- it is at most the double before 1
  to_last : T (le u last_below_one)
  unfolding of_bits
  to_last = elim (signs u U.from) [
    | inl c ↦
        let b = lt→bits binary64 u one U.held (one_number binary64).held c tt U.to in
        let e = known.before-one in
        bits→le binary64 u last_below_one U.held known.last-number.held c tt (omega arith)
    | inr l ↦ le_trans u nought last_below_one l known.last-from
  ]

  rest-number : Number binary64 (sub binary64 one u)
  rest-number = number one _ (one_number binary64) (rest-upto u in_unit_lem)

  -- so 1 leaves at least 2^-53 of it
  rest-least : T (le step (sub binary64 one u))
  rest-least =
      let I = one_number binary64 in
      subst (λ (x : Float). T (le x (sub binary64 one u))) known.last_leaves
      (sub_mono binary64 one one last_below_one u I I known.last-number below-number (itself one I) to_last)

  left-number : Number binary64 (left u)
  left-number =
      let T2 = known.two-number in
      number two_of (left u) T2 (mul-upto two_of one two_of (sub binary64 one u) T2 (one_number binary64) known.two-upto (rest-upto u in_unit_lem) two_of known.two_ones)

  left-above : T (lt nought (left u))
  left-above = lt_le_trans nought (exp2-below 51) (left u) known.above
      (subst (λ (x : Float). T (le x (left u))) known.two_steps (doubled_rises step (sub binary64 one u) known.step-number rest-number known.step_from rest-least))

over_rises : (u w : Float) → Below u → Below w → T (le u w) → T (le (over u) (over w))
over_rises u w U W h =
    let I = one_number binary64 in
    let less = sub_mono binary64 one one w u I I (below-number w W) (below-number u U) (itself one I) h in
    let twice = doubled_rises (sub binary64 one w) (sub binary64 one u) (rest-number w W) (rest-number u U) (rest-upto w (in_unit_lem w W)).from less in
    div_mono_right binary64 one (left w) (left u) I (left-number w W) (left-number u U) nought_le_one (left-above w W) twice

-- ---- from one half to the other: 2u is at most 1, and 1 / (2 (1 - w)) at least
doubled_to_one : (u : Float) → Below u → T (le u half_of) → T (le (mul binary64 two_of u) one)
doubled_to_one u U h =
    subst (λ (x : Float). T (le (mul binary64 two_of u) x)) known.two_halves (doubled_rises u half_of (below-number u U) known.half-number U.from h)

half-below-one : Below half_of
half-below-one = record { held = known.half-number.held; from = known.half-from; to = known.half-below }

over-from-one : (w : Float) → Below w → T (le half_of w) → T (le one (over w))
over-from-one w W h = subst (λ (x : Float). T (le x (over w))) known.half_over (over_rises half_of w half-below-one W h)

-- a double that is not at most one half is above it
past-half : (w : Float) → Below w → le w half_of ≡ false → T (le half_of w)
past-half w W f = lt→le half_of w (nle→lt half_of w (le_not_nan nought half_of known.half-from).1 (le_not_nan nought w W.from).1 (subst T f))

-- ---- so what the root is taken of rises
pub argument_rises : (u w : Float) → Below u → Below w → T (le u w) → T (le (spread_argument u) (spread_argument w))
unfolding of_bits
argument_rises u w U W h = by_bool (le u half)
    (λ e. by_bool (le w half)
    (λ f. rw (e, f) (doubled_rises u w (below-number u U) (below-number w W) U.from h))
    (λ f. rw (e, f) (le_trans (mul binary64 two_of u) one (over w) (doubled_to_one u U (true_T _ e)) (over-from-one w W (past-half w W f)))))
    (λ e. let f = no_pass (le w half) (λ t. absurd (subst T e (le_trans u w half h (true_T _ t)))) in rw (e, f) (over_rises u w U W h))
