-- Children and mutants of settings within bounds are within bounds, and their doubles are doubles: what is a Float is clamped and no NaN, what is an Int is
-- clamped, and choices change places or are drawn anew.
use mathlib.Core.Path.{◌≡◌}
use mathlib.Core.Bool.{true, not, ◌&&◌}
use Prim.Native.Nat.{ℕ}
use lib.Dec.{T, lit<, lit≤}
use lib.IntN.{ℤ}
use lib.Signed.{le_z, lt_z, ◌≤ℤ◌, ≤ℤ_refl, lt_z_no}
use lib.Ieee.{Float, binary64, fits, is_nan, of_bits, to_signed, le, lt}
use lib.Ieee.Fits.{cond-fits, add-fits, div-fits}
use Rattle.list_laws.proofs.Bools.{by_bool, T_true, false_T, and_t}
use Rattle.float_laws.proofs.Order as order
use Rattle.float_laws.proofs.Constants.{nought, exp2, minus_exp2}
use Rattle.float_laws.proofs.Magnitude.{Within, ends-within, within-not-nan, within_wider, add-within, sub_within, mul-within, div_within}
use Rattle.float_laws.proofs.FromZero.{upto-within}
use Rattle.real_laws.proofs.Clamped.{clamp-within}
use Rattle.real_laws.proofs.Between.{root_within}
use Rattle.model.specs.declared.Distribution.{Distribution}
use Rattle.model.specs.declared.Distribution.TheVariants as dist
use Rattle.model.specs.declared.FloatDistribution.{FloatDistribution}
use Rattle.model.specs.declared.IntDistribution.{IntDistribution}
use Rattle.model.specs.declared.ParamValue.{ParamValue}
use Rattle.model.specs.declared.ParamValue.TheVariants as value
use Rattle.model.specs.Real as real
use Rattle.model.specs.Real.{◌⊖◌, ◌⊗◌, unit, two, within, clamp, of_whole}
use Rattle.model.specs.Numbers.{round_of, midpoint, R}
use Rattle.model.specs.Draw.{Drawn}
use Rattle.model.specs.Setting.{Pair, small_gap, valid_dimension, in_bounds, sample_random, draw_unit, spread, clamp_int, to_int, cross_float, cross_int, cross_categorical, cross_floats, cross_ints, cross_one, mutation_shift, polynomial_mutation, mutate_one}
use Rattle.settings.proofs.Valid.{FloatBounds, float_bounds, IntBounds, int_bounds}
use Rattle.settings.proofs.InBounds.{Held, between, sampled_in_bounds}

-- ---- reals

-- 1, and R of anything, which lies within 0..2^52
one-within : Within 52 unit
unfolding of_bits le fits
one-within = record { held = tt; low = tt; high = tt }

root_small : (v : Float) (k : ℕ) → Within 52 (R v k)
root_small v k = upto-within 52 (R v k) (root_within v k)

-- x lies within low..high, and all three are at most 2^53 in magnitude
pub record Inside (low high x : Float) : Type 0 where
  pub low-within : Within 53 low
  pub high_within : Within 53 high
  pub within : Within 53 x
  pub above : T (le low x)
  pub below : T (le x high)

pub inside : (low high x : Float) → T (fits binary64 low) → T (fits binary64 high) → T (fits binary64 x) → T (le (minus_exp2 53) low) → T (le high (exp2 53)) → T (le low x)
    → T (le x high) → Inside low high x
inside low high x L H X bottom top a b =
    let w = ends-within 53 low x L X a bottom (order.le_trans x high (exp2 53) b top) in
    record { low-within = w.0; high_within = (ends-within 53 x high X H b w.1.low top).1; within = w.1; above = a; below = b }

-- so a setting of a Float dimension
pub float_inside : (d : FloatDistribution) (x : Float) → Held (dist.Float d) → FloatBounds d → T (fits binary64 x) → within d.low d.high x ≡ true → Inside d.low d.high x
unfolding of_bits
float_inside d x h b f i = let p = and_t (le d.low x) (le x d.high) i in inside d.low d.high x h.0 h.1 f b.low_end b.high_end p.0 p.1

-- a middle of products is no NaN
middle-real : (a b p q : Float) → Within 53 a → Within 53 b → Within 53 p → Within 53 q → T (not (is_nan (midpoint (a ⊗ p) (b ⊗ q))))
unfolding of_bits le fits
middle-real a b p q sa sb sp sq =
    within-not-nan 108 _
    (div_within 107 0 _ two (lit< tt) (lit≤ tt) (add-within 106 _ _ (lit≤ tt) (mul-within 53 53 a p (lit≤ tt) sa sp) (mul-within 53 53 b q (lit≤ tt) sb sq)) (record { held = tt; finite = tt }) tt)

-- ---- a value that a setting of a dimension can have: of its kind, within its bounds, and where it is a double, one that 64 bits hold
abbrev pub HeldValue : ParamValue → Type 0
HeldValue (value.Float x) = T (fits binary64 x)
HeldValue (value.Int n) = Unit
HeldValue (value.Categorical c) = Unit

abbrev pub Fit : Distribution → ParamValue → Type 0
Fit d v = (in_bounds d v ≡ true) × HeldValue v

abbrev pub BothFit : Distribution → Drawn Pair → Type 0
BothFit d c = Fit d c.value.first × Fit d c.value.second

-- what is clamped to a Float dimension's bounds is one, unless it is a NaN
clamped : (d : FloatDistribution) (x : Float) → Held (dist.Float d) → FloatBounds d → T (fits binary64 x) → T (not (is_nan x)) → Fit (dist.Float d) (value.Float (clamp d.low d.high x))
unfolding in_bounds
clamped d x h b f n = (
  T_true _ (clamp-within d.low d.high x b.ordered n),
  cond-fits binary64 (lt x d.low) d.low _ h.0 (cond-fits binary64 (lt d.high x) d.high x h.1 f),
)

cross_float_fit : (d : FloatDistribution) (p q : Float) (k s : ℕ) → Held (dist.Float d) → FloatBounds d → Fit (dist.Float d) (value.Float p) → Fit (dist.Float d) (value.Float q)
    → BothFit (dist.Float d) (cross_float d p q k s)
unfolding in_bounds cross_float spread
cross_float_fit d p q k s h b hp hq = by_bool (lt (real.absolute (p ⊖ q)) small_gap)
    (λ e. rw e (hp, hq))
    (λ e. rw e (
    let near = add-within 52 unit _ (lit≤ tt) one-within (root_small _ k) in
    let far = sub_within 52 unit _ (lit≤ tt) one-within (root_small _ k) in
    let sp = (float_inside d p h b hp.1 hp.0).within in
    let sq = (float_inside d q h b hq.1 hq.0).within in
    (clamped d _ h b (div-fits binary64 _ _) (middle-real _ _ p q near far sp sq), clamped d _ h b (div-fits binary64 _ _) (middle-real _ _ p q far near sp sq))))

-- ---- whole numbers

clamp_int-within : (low high n : ℤ) → low ≤ℤ high → (le_z low (clamp_int low high n) && le_z (clamp_int low high n) high) ≡ true
clamp_int-within low high n h = by_bool (lt_z n low)
    (λ e. rw e (between low high low (≤ℤ_refl low) h))
    (λ e. by_bool (lt_z high n)
    (λ f. rw (e, f) (between low high high h (≤ℤ_refl high)))
    (λ f. rw (e, f) (between low high n (lt_z_no (false_T (lt_z n low) e)) (lt_z_no (false_T (lt_z high n) f)))))

pub to_int-within : (low high : ℤ) (x : Float) → low ≤ℤ high → (le_z low (to_int low high x) && le_z (to_int low high x) high) ≡ true
to_int-within low high x h = clamp_int-within low high (to_signed 63 (round_of x)) h

cross_int_fit : (d : IntDistribution) (p q : ℤ) (k s : ℕ) → IntBounds d → Fit (dist.Int d) (value.Int p) → Fit (dist.Int d) (value.Int q) → BothFit (dist.Int d) (cross_int d p q k s)
unfolding in_bounds cross_int
cross_int_fit d p q k s b hp hq = by_bool (le_z p q && le_z q p)
    (λ e. rw e (hp, hq))
    (λ e. rw e ((to_int-within d.low d.high _ b.span.0, tt), (to_int-within d.low d.high _ b.span.0, tt)))

-- ---- THE THEOREM FOR CROSSOVER
floats_fit : (d : Distribution) (p q : Float) (k s : ℕ) → Held d → valid_dimension d ≡ true → Fit d (value.Float p) → Fit d (value.Float q) → BothFit d (cross_floats d p q k s)
floats_fit (dist.Float d) p q k s h v hp hq = cross_float_fit d p q k s h (float_bounds d v) hp hq
floats_fit (dist.Int d) p q k s h v hp hq = (hp, hq)
floats_fit (dist.Categorical d) p q k s h v hp hq = (hp, hq)

ints_fit : (d : Distribution) (p q : ℤ) (k s : ℕ) → valid_dimension d ≡ true → Fit d (value.Int p) → Fit d (value.Int q) → BothFit d (cross_ints d p q k s)
ints_fit (dist.Float d) p q k s v hp hq = (hp, hq)
ints_fit (dist.Int d) p q k s v hp hq = cross_int_fit d p q k s (int_bounds d v) hp hq
ints_fit (dist.Categorical d) p q k s v hp hq = (hp, hq)

-- choices stand, or change places
choices_fit : (d : Distribution) (p q s : ℕ) → Fit d (value.Categorical p) → Fit d (value.Categorical q) → BothFit d (cross_categorical p q s)
unfolding cross_categorical
choices_fit d p q s hp hq = by_bool (lt (draw_unit s).value real.half) (λ e. rw e (hq, hp)) (λ e. rw e (hp, hq))

pub crossed_in_bounds : (d : Distribution) (a b : ParamValue) (k s : ℕ) → Held d → valid_dimension d ≡ true → Fit d a → Fit d b → BothFit d (cross_one d a b k s)
crossed_in_bounds d (value.Float p) (value.Float q) k s h v ha hb = floats_fit d p q k s h v ha hb
crossed_in_bounds d (value.Float p) (value.Int q) k s h v ha hb = (ha, hb)
crossed_in_bounds d (value.Float p) (value.Categorical q) k s h v ha hb = (ha, hb)
crossed_in_bounds d (value.Int p) (value.Float q) k s h v ha hb = (ha, hb)
crossed_in_bounds d (value.Int p) (value.Int q) k s h v ha hb = ints_fit d p q k s v ha hb
crossed_in_bounds d (value.Int p) (value.Categorical q) k s h v ha hb = (ha, hb)
crossed_in_bounds d (value.Categorical p) (value.Float q) k s h v ha hb = (ha, hb)
crossed_in_bounds d (value.Categorical p) (value.Int q) k s h v ha hb = (ha, hb)
crossed_in_bounds d (value.Categorical p) (value.Categorical q) k s h v ha hb = choices_fit d p q s ha hb

-- ---- mutation

shift_small : (x low high range : Float) (k : ℕ) (u : Float) → Within 53 (mutation_shift x low high range k u)
unfolding mutation_shift
shift_small x low high range k u = by_bool (lt u real.half)
    (λ e. rw e (sub_within 52 _ unit (lit≤ tt) (root_small _ k) one-within))
    (λ e. rw e (sub_within 52 unit _ (lit≤ tt) one-within (root_small _ k)))

mutation_fit : (d : FloatDistribution) (x : Float) (k s : ℕ) → Held (dist.Float d) → FloatBounds d → Fit (dist.Float d) (value.Float x)
    → Fit (dist.Float d) (value.Float (polynomial_mutation x d.low d.high k s).value)
unfolding in_bounds polynomial_mutation le
mutation_fit d x k s h b i = by_bool (le (d.high ⊖ d.low) real.nought)
    (λ e. rw e i)
    (λ e. rw e (
    let c = float_inside d x h b i.1 i.0 in
    let r = sub_within 53 d.high d.low (lit≤ tt) c.high_within c.low-within in
    let m = mul-within 53 54 _ _ (lit≤ tt) (shift_small x d.low d.high (d.high ⊖ d.low) k (draw_unit s).value) r in
    clamped d _ h b (add-fits binary64 _ _) (within-not-nan 108 _ (add-within 107 x _ (lit≤ tt) (within_wider 53 107 x (lit≤ tt) c.within) m))))

pub mutated_in_bounds : (d : Distribution) (a : ParamValue) (k s : ℕ) → Held d → valid_dimension d ≡ true → Fit d a → Fit d (mutate_one d a k s).value
unfolding in_bounds sample_random
mutated_in_bounds (dist.Float d) (value.Float x) k s h v i = mutation_fit d x k s h (float_bounds d v) i
mutated_in_bounds (dist.Float d) (value.Int n) k s h v i = i
mutated_in_bounds (dist.Float d) (value.Categorical c) k s h v i = i
mutated_in_bounds (dist.Int d) (value.Float x) k s h v i = i
mutated_in_bounds (dist.Int d) (value.Int n) k s h v i =
    (to_int-within d.low d.high (polynomial_mutation (of_whole n) (of_whole d.low) (of_whole d.high) k s).value (int_bounds d v).span.0, tt)
mutated_in_bounds (dist.Int d) (value.Categorical c) k s h v i = i
mutated_in_bounds (dist.Categorical d) (value.Float x) k s h v i = i
mutated_in_bounds (dist.Categorical d) (value.Int n) k s h v i = i
mutated_in_bounds (dist.Categorical d) (value.Categorical c) k s h v i = (sampled_in_bounds (dist.Categorical d) s tt v, tt)
