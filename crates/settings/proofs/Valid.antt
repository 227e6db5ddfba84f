-- What a valid dimension tells of its parts.
use mathlib.Core.Path.{◌≡◌, sym, ap, ◌∙◌}
use mathlib.Core.Bool.{true, false, not, ◌&&◌, true≢false}
use Prim.Native.Nat.{ℕ, ◌≤◌, ◌<◌}
use borrow.Author.Tests.{leb-true, ltb-false, le-ltb, not-false}
use lib.Dec.{T, leb, ltb}
use lib.Signed.{le_z, le_z_yes}
use lib.Ieee.{le}
use Rattle.list_laws.proofs.Bools.{and_left, and_right, and_both, and_t, true_T, or_left, or_right, or_both, no_fail, both_ways}
use Rattle.list_laws.proofs.Tests.{all_below-each, all_below-every}
use Rattle.rng_util.specs.Span.{Spanned}
use Rattle.model.specs.declared.Distribution.{Distribution}
use Rattle.model.specs.declared.Distribution.TheVariants as dist
use Rattle.model.specs.declared.FloatDistribution.{FloatDistribution}
use Rattle.model.specs.declared.IntDistribution.{IntDistribution}
use Rattle.model.specs.declared.CategoricalDistribution.{CategoricalDistribution}
use Rattle.model.specs.Lists.{all_below}
use Rattle.model.specs.Real.{within}
use Rattle.model.specs.Setting.{min_bound, max_bound, min_whole, max_whole, step_above0, max_dims, valid_bounds, valid_step, valid_dimension}
use Rattle.model.specs.Refusal.{bad_bounds, bad_steps, bad_dimensions}

pub record FloatBounds (d : FloatDistribution) : Type 0 where
  pub ordered : T (le d.low d.high)
  pub low_end : T (le min_bound d.low)
  pub high_end : T (le d.high max_bound)

-- what passes both tests passes each
pub valid_bounds_lem : (d : Distribution) → valid_dimension d ≡ true → valid_bounds d ≡ true
unfolding valid_dimension
valid_bounds_lem d h = and_left (valid_bounds d) (valid_step d) h

pub valid_step_lem : (d : Distribution) → valid_dimension d ≡ true → valid_step d ≡ true
unfolding valid_dimension
valid_step_lem d h = and_right (valid_bounds d) (valid_step d) h

pub valid_both : (d : Distribution) → valid_bounds d ≡ true → valid_step d ≡ true → valid_dimension d ≡ true
unfolding valid_dimension
valid_both d h k = and_both (valid_bounds d) (valid_step d) h k

pub float_bounds : (d : FloatDistribution) → valid_dimension (dist.Float d) ≡ true → FloatBounds d
unfolding valid_bounds
float_bounds d v =
    let h = valid_bounds_lem (dist.Float d) v in
    let a = le d.low d.high in
    let b = within min_bound max_bound d.low in
    let e = within min_bound max_bound d.high in
    let f = not d.log_scale in
    let t = and_right a (b && (e && f)) h in
    record {
      ordered = true_T a (and_left a (b && (e && f)) h);
      low_end = (and_t (le min_bound d.low) (le d.low max_bound) (and_left b (e && f) t)).0;
      high_end = (and_t (le min_bound d.high) (le d.high max_bound) (and_left e f (and_right b (e && f) t))).1;
    }

pub record IntBounds (d : IntDistribution) : Type 0 where
  pub span : Spanned d.low d.high
  pub step : step_above0 d.step ≡ true

pub int_bounds : (d : IntDistribution) → valid_dimension (dist.Int d) ≡ true → IntBounds d
unfolding valid_bounds
int_bounds d v =
    let h = valid_bounds_lem (dist.Int d) v in
    let a = le_z d.low d.high in
    let b = le_z min_whole d.low in
    let e = le_z d.high max_whole in
    let l = not d.log_scale in
    let f = step_above0 d.step in
    let t = and_right a (b && (e && (l && f))) h in
    let u = and_right b (e && (l && f)) t in
    record {
      span = (le_z_yes (true_T a (and_left a (b && (e && (l && f))) h)), le_z_yes (true_T b (and_left b (e && (l && f)) t)), le_z_yes (true_T e (and_left e (l && f) u)));
      step = and_right l f (and_right e (l && f) u);
    }

pub some-choice : (d : CategoricalDistribution) → valid_dimension (dist.Categorical d) ≡ true → 0 < d.n_choices
unfolding valid_bounds
some-choice d v = leb-true 1 d.n_choices (and_left (leb 1 d.n_choices) (leb d.n_choices 65536) (valid_bounds_lem (dist.Categorical d) v))

-- dimensions that are not bad are at most `max_dims`, and each is valid
pub few : (dims : ℕ → Distribution) (n : ℕ) → bad_dimensions dims n ≡ false → n ≤ max_dims
unfolding bad_dimensions
few dims n h = ltb-false max_dims n (or_left (ltb max_dims n) (not (all_below (λ d. valid_dimension (dims d)) n)) h)

pub each : (dims : ℕ → Distribution) (n : ℕ) → bad_dimensions dims n ≡ false → (i : ℕ) → i < n → valid_dimension (dims i) ≡ true
unfolding bad_dimensions
each dims n h = all_below-each (λ d. valid_dimension (dims d)) n (not-false _ (or_right (ltb max_dims n) (not (all_below (λ d. valid_dimension (dims d)) n)) h))

-- dimensions of which refusal 6 turns none down are at most `max_dims`
pub few-bounds : (dims : ℕ → Distribution) (n : ℕ) → bad_bounds dims n ≡ false → n ≤ max_dims
unfolding bad_bounds
few-bounds dims n h = ltb-false max_dims n (or_left (ltb max_dims n) (not (all_below (λ d. valid_bounds (dims d)) n)) h)

-- dimensions that neither 6 nor 12 turns down are not bad
pub good-dimensions : (dims : ℕ → Distribution) (n : ℕ) → bad_bounds dims n ≡ false → bad_steps dims n ≡ false → bad_dimensions dims n ≡ false
unfolding bad_bounds bad_steps bad_dimensions
good-dimensions dims n h k =
    let bounds = all_below-each (λ d. valid_bounds (dims d)) n (not-false _ (or_right (ltb max_dims n) (not (all_below (λ d. valid_bounds (dims d)) n)) h)) in
    let steps = all_below-each (λ d. valid_step (dims d)) n (not-false _ k) in
    or_both (ltb max_dims n) _ (or_left (ltb max_dims n) _ h) (ap not (all_below-every (λ d. valid_dimension (dims d)) n (λ i l. valid_both (dims i) (bounds i l) (steps i l))))

-- and those that are not bad are turned down by neither
pub bounds-good : (dims : ℕ → Distribution) (n : ℕ) → bad_dimensions dims n ≡ false → bad_bounds dims n ≡ false
unfolding bad_bounds
bounds-good dims n h =
    or_both (ltb max_dims n) _ (let l = few dims n h in le-ltb max_dims n l) (ap not (all_below-every (λ d. valid_bounds (dims d)) n (λ i l. valid_bounds_lem (dims i) (each dims n h i l))))

pub steps_good : (dims : ℕ → Distribution) (n : ℕ) → bad_dimensions dims n ≡ false → bad_steps dims n ≡ false
unfolding bad_steps
steps_good dims n h = ap not (all_below-every (λ d. valid_step (dims d)) n (λ i l. valid_step_lem (dims i) (each dims n h i l)))

-- so 6 or 12 applies exactly to the bad ones
pub bad-by-bounds : (dims : ℕ → Distribution) (n : ℕ) → bad_bounds dims n ≡ true → true ≡ bad_dimensions dims n
bad-by-bounds dims n h = sym (no_fail (bad_dimensions dims n) (λ e. true≢false (sym h ∙ bounds-good dims n e)))

pub bad-by_steps : (dims : ℕ → Distribution) (n : ℕ) → bad_bounds dims n ≡ false → bad_steps dims n ≡ bad_dimensions dims n
bad-by_steps dims n h =
    both_ways (bad_steps dims n) (bad_dimensions dims n)
    (λ e. no_fail (bad_dimensions dims n) (λ f. true≢false (sym e ∙ steps_good dims n f)))
    (λ e. no_fail (bad_steps dims n) (λ f. true≢false (sym e ∙ good-dimensions dims n h f)))
