-- What is moved to a step lies within its bounds.
use Rattle.std.specs.Prelude.{Option, None, Some}
use mathlib.Core.Path.{◌≡◌}
use mathlib.Core.Bool.{true}
use lib.Dec.{T}
use lib.IntN.{pos}
use lib.Signed.{le_z, le_z_yes}
use lib.Ieee.{Float, binary64, fits}
use Rattle.list_laws.proofs.Bools.{T_true, true_T, and_t}
use Rattle.model.specs.declared.Distribution.{Distribution}
use Rattle.model.specs.declared.Distribution.TheVariants as dist
use Rattle.model.specs.declared.ParamValue.{ParamValue}
use Rattle.model.specs.declared.ParamValue.TheVariants as value
use Rattle.model.specs.Real.{◌⊖◌, ◌⊘◌, within}
use Rattle.model.specs.Setting.{valid_dimension, in_bounds, last_step, nearest_step, move_float, move_setting}
use Rattle.settings.proofs.InBounds.{Held, StepOk, float_step}
use Rattle.settings.proofs.OnStep.{FloatStep, last_spanned, on-step_in, on-step-fits}
use Rattle.variation_laws.proofs.Children.{Fit, to_int-within}

-- the nearest step is one of 0 to the greatest
pub nearest-upto : (low high step v : Float) → FloatStep low high step → T (le_z (pos 0) (nearest_step low high step v)) × T (le_z (nearest_step low high step v) (last_step low high step))
nearest-upto low high step v q =
    and_t (le_z (pos 0) (nearest_step low high step v)) (le_z (nearest_step low high step v) (last_step low high step))
    (to_int-within (pos 0) (last_step low high step) ((v ⊖ low) ⊘ step) (last_spanned low high step q).0)

-- so its value lies within the bounds, wherever it was moved from
pub stepped_in : (low high step v : Float) → FloatStep low high step → T (within low high (move_float low high (Some step) v))
unfolding move_float
stepped_in low high step v q = let k = nearest-upto low high step v q in on-step_in low high step q (nearest_step low high step v) (le_z_yes k.0) (le_z_yes k.1)

float_moved : (low high : Float) (o : Option Float) (v : Float) → StepOk low high o → within low high v ≡ true → within low high (move_float low high o v) ≡ true
unfolding move_float
float_moved low high None v q h = h
float_moved low high (Some step) v q h = T_true _ (stepped_in low high step v q)

float_held : (low high : Float) (o : Option Float) (v : Float) → T (fits binary64 low) → T (fits binary64 high) → T (fits binary64 v) → T (fits binary64 (move_float low high o v))
unfolding move_float
float_held low high None v l h f = f
float_held low high (Some step) v l h f = on-step-fits low high step (nearest_step low high step v) l h

-- THE THEOREM
pub moved-in_bounds : (d : Distribution) (v : ParamValue) → Held d → valid_dimension d ≡ true → Fit d v → Fit d (move_setting d v)
unfolding in_bounds move_setting
moved-in_bounds (dist.Float d) (value.Float x) h g f = (float_moved d.low d.high d.step x (float_step d h g) f.0, float_held d.low d.high d.step x h.0 h.1 f.1)
moved-in_bounds (dist.Float d) (value.Int n) h g f = f
moved-in_bounds (dist.Float d) (value.Categorical c) h g f = f
moved-in_bounds (dist.Int d) v h g f = f
moved-in_bounds (dist.Categorical d) v h g f = f
