-- "Every drawn setting is within its bounds": for a valid dimension whose numbers are such as an `f64` and an `i64` hold.
use Rattle.std.specs.Prelude.{Option, None, Some}
use mathlib.Core.Path.{◌≡◌, refl, sym, ap, ◌∙◌}
use mathlib.Core.Bool.{true, ◌&&◌}
use Prim.Native.Nat.{ℕ, ◌<◌}
use borrow.Author.Tests.{lt-ltb}
use lib.Dec.{T}
use lib.IntN.{ℤ, pos, ◌+ℤ◌}
use lib.Signed.{le_z, ◌≤ℤ◌, le_z_yes}
use lib.Ieee.{Float, binary64, fits, le, of_bits}
use lib.Ieee.Fits.{add-fits}
use native.Mathlib.Omega.{arith}
use mir.Syntax.{w64}
use mir.Val.{SFits}
use Rattle.list_laws.proofs.Bools.{T_true, true_T, and_both}
use Rattle.float_laws.proofs.Constants.{exp2, minus_exp2}
use Rattle.float_laws.proofs.Magnitude.{Within, within-number, within_wider, ends-within}
use Rattle.rng_util.specs.Span.{Spanned}
use Rattle.rng_util.proofs.Span as range
use Rattle.rng_util.proofs.Draws.{draw_usize-below, draw_i64-within, f64_range-within}
use Rattle.model.specs.declared.Distribution.{Distribution}
use Rattle.model.specs.declared.Distribution.TheVariants as dist
use Rattle.model.specs.declared.FloatDistribution.{FloatDistribution}
use Rattle.model.specs.declared.IntDistribution.{IntDistribution}
use Rattle.model.specs.declared.CategoricalDistribution.{CategoricalDistribution}
use Rattle.model.specs.Draw.{draw_word, draw_i64, f64_range}
use Rattle.model.specs.Real.{within}
use Rattle.model.specs.Setting.{step_above0, valid_float_step, valid_step, valid_dimension, in_bounds, last_step, sample_int, sample_float, sample_random}
use Rattle.list_laws.proofs.Draws.{drawn-value}
use Rattle.settings.proofs.Valid.{valid_step_lem, float_bounds, IntBounds, int_bounds, some-choice}
use Rattle.settings.proofs.OnStep.{FloatStep, step-test, last_spanned, last_fits, on-step_in, on-step-fits}
use Rattle.settings.proofs.Stepped.{Stepping, rise, rise_le, stepped_is}

-- the numbers of a dimension are such as the machine holds
abbrev pub HeldStepF64 : Option Float → Type 0
HeldStepF64 None = Unit
HeldStepF64 (Some x) = T (fits binary64 x)

abbrev pub HeldStepI64 : Option ℤ → Type 0
HeldStepI64 None = Unit
HeldStepI64 (Some n) = SFits w64 n

abbrev pub Held : Distribution → Type 0
Held (dist.Float d) = T (fits binary64 d.low) × T (fits binary64 d.high) × HeldStepF64 d.step
Held (dist.Int d) = SFits w64 d.low × SFits w64 d.high × HeldStepI64 d.step
Held (dist.Categorical d) = Unit

pub between : (low high n : ℤ) → low ≤ℤ n → n ≤ℤ high → (le_z low n && le_z n high) ≡ true
between low high n h k = and_both _ _ (T_true (le_z low n) h.le) (T_true (le_z n high) k.le)

-- document 02, M-103: where there is a step, it is as refusal 12 asks
abbrev pub StepOk : Float → Float → Option Float → Type 0
StepOk low high None = Unit
StepOk low high (Some step) = FloatStep low high step

ends : (low high : Float) → T (fits binary64 low) → T (fits binary64 high) → T (le low high) → T (le (minus_exp2 53) low) → T (le high (exp2 53)) → Within 1000 low × Within 1000 high
ends low high fl fh h kl kh =
    let e = ends-within 53 low high fl fh h kl kh in
    (within_wider 53 1000 low (omega arith) e.0, within_wider 53 1000 high (omega arith) e.1)

step_so : (low high : Float) (step : Option Float) → T (fits binary64 low) → T (fits binary64 high) → HeldStepF64 step → T (le low high) → T (le (minus_exp2 53) low) → T (le high (exp2 53))
    → valid_float_step low high step ≡ true → StepOk low high step
step_so low high None fl fh fs h kl kh v = tt
step_so low high (Some step) fl fh fs h kl kh v =
    let e = ends low high fl fh h kl kh in
    let t = step-test low high step v in
    record {
      low-number = within-number 1000 low e.0;
      high_number = within-number 1000 high e.1;
      step-number = record { held = fs; finite = t.finite };
      ordered = h;
      low_end = e.0.low;
      high_end = e.1.high;
      above = t.above;
      few = t.few;
    }

pub float_step : (d : FloatDistribution) → Held (dist.Float d) → valid_dimension (dist.Float d) ≡ true → StepOk d.low d.high d.step
unfolding of_bits valid_step
float_step d h v =
    let b = float_bounds d v in
    step_so d.low d.high d.step h.0 h.1 h.2 b.ordered b.low_end b.high_end (valid_step_lem (dist.Float d) v)

real_in : (low high : Float) (step : Option Float) (s : ℕ) → T (fits binary64 low) → T (fits binary64 high) → T (le low high) → T (le (minus_exp2 53) low) → T (le high (exp2 53))
    → StepOk low high step → T (within low high (sample_float low high step s).value)
unfolding sample_float
real_in low high None s fl fh h kl kh q = f64_range-within low high s fl fh h kl kh
real_in low high (Some step) s fl fh h kl kh q =
    let w = draw_i64-within (pos 0) (last_step low high step) s (record { sfits = omega arith }) (last_fits low high step q) (last_spanned low high step q) in
    on-step_in low high step q _ w.0 w.1

float_in : (d : FloatDistribution) (s : ℕ) → Held (dist.Float d) → valid_dimension (dist.Float d) ≡ true → in_bounds (dist.Float d) (sample_random (dist.Float d) s).value ≡ true
unfolding in_bounds sample_random of_bits
float_in d s h v =
    let b = float_bounds d v in
    T_true _ (real_in d.low d.high d.step s h.0 h.1 b.ordered b.low_end b.high_end (float_step d h v))

-- a drawn double is a double
pub float_fits : (low high : Float) (step : Option Float) (s : ℕ) → T (fits binary64 low) → T (fits binary64 high) → T (fits binary64 (sample_float low high step s).value)
unfolding sample_float f64_range
float_fits low high None s fl fh = add-fits binary64 _ _
float_fits low high (Some step) s fl fh = on-step-fits low high step (draw_i64 (pos 0) (last_step low high step) s).value fl fh

whole_in : (low high : ℤ) (step : Option ℤ) (s : ℕ) → SFits w64 low → SFits w64 high → HeldStepI64 step → Spanned low high → step_above0 step ≡ true
    → (le_z low (sample_int low high step s).value && le_z (sample_int low high step s).value high) ≡ true
unfolding sample_int
whole_in low high None s fl fh fs b p = let w = draw_i64-within low high s fl fh b in between low high _ w.0 w.1
whole_in low high (Some n) s fl fh fs b p =
    let q : Stepping low high n = record { low_fits = fl; high_fits = fh; step_fits = fs; bounds = b; above = le_z_yes (true_T (le_z (pos 1) n) p) } in
    let w = (draw_word s).value in
    let e = drawn-value (stepped_is low high n q s w (draw_word s).state refl) in
    let l = rise_le low high n q w in
    sym (ap (λ (z : ℤ). le_z low z && le_z z high) e) ∙ between low high (low +ℤ pos (rise low high n w)) (range.pick_low low high fl fh b _ l) (range.pick_high low high fl fh b _ l)

int_in : (d : IntDistribution) (s : ℕ) → Held (dist.Int d) → IntBounds d → in_bounds (dist.Int d) (sample_random (dist.Int d) s).value ≡ true
unfolding in_bounds sample_random
int_in d s h b = whole_in d.low d.high d.step s h.0 h.1 h.2 b.span b.step

choice_in : (d : CategoricalDistribution) (s : ℕ) → 0 < d.n_choices → in_bounds (dist.Categorical d) (sample_random (dist.Categorical d) s).value ≡ true
unfolding in_bounds sample_random
choice_in d s h = lt-ltb _ d.n_choices (draw_usize-below d.n_choices s h)

-- THE THEOREM
pub sampled_in_bounds : (d : Distribution) (s : ℕ) → Held d → valid_dimension d ≡ true → in_bounds d (sample_random d s).value ≡ true
sampled_in_bounds (dist.Float d) s h v = float_in d s h v
sampled_in_bounds (dist.Int d) s h v = int_in d s h (int_bounds d v)
sampled_in_bounds (dist.Categorical d) s h v = choice_in d s (some-choice d v)
