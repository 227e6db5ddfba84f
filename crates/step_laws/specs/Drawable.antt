-- Document 02, M-103: what a Float of a dimension with a step can be drawn as.
use Rattle.std.specs.Prelude.{ℕ, ◌≡◌, true, pos, ◌≤ℤ◌, Float, Some}
use Rattle.model.specs.declared.Distribution.{Distribution}
use Rattle.model.specs.declared.Distribution.TheVariants as dist
use Rattle.model.specs.declared.FloatDistribution.{FloatDistribution}
use Rattle.model.specs.declared.ParamValue.{ParamValue}
use Rattle.model.specs.declared.ParamValue.TheVariants as value
use Rattle.model.specs.Draw.{draw_word}
use Rattle.model.specs.Setting.{valid_dimension, in_bounds, last_step, on_step, sample_random, move_setting}
use Rattle.settings.proofs.InBounds.{Held}

-- "k from 0 to floor((high - low) / step), value low + k × step, here also clamped"
pub record Drawable (low high step x : Float) : Type 0 where
  pub k : ℕ
  pub upto : pos k ≤ℤ last_step low high step
  pub value : x ≡ on_step low high step (pos k)

abbrev pub DrawableValue : FloatDistribution → Float → ParamValue → Type 0
DrawableValue d step (value.Float x) = Drawable d.low d.high step x
DrawableValue d step (value.Int n) = ⊥
DrawableValue d step (value.Categorical c) = ⊥

-- M-103 of a Float dimension with a step that neither 6 nor 12 turns down
pub record OnSteps (d : FloatDistribution) (step : Float) : Type 0 where
  -- every drawn value is such, and every such value is drawn: k where the generator's word is k
  pub drawn : (s : ℕ) → DrawableValue d step (sample_random (dist.Float d) s).value
  pub each : (s : ℕ) → pos (draw_word s).value ≤ℤ last_step d.low d.high step
      → (sample_random (dist.Float d) s).value ≡ value.Float (on_step d.low d.high step (pos (draw_word s).value))
  -- what is moved is a value that could be drawn
  pub moved : (v : Float) → DrawableValue d step (move_setting (dist.Float d) (value.Float v))
  -- "Every drawn or moved setting must pass the bounds check on its return."
  pub drawn_passes : (s : ℕ) → in_bounds (dist.Float d) (sample_random (dist.Float d) s).value ≡ true
  pub moved_passes : (v : Float) → in_bounds (dist.Float d) (move_setting (dist.Float d) (value.Float v)) ≡ true

-- for every one
abbrev pub AllOnSteps : Type 0
AllOnSteps = (d : FloatDistribution) (step : Float) → d.step ≡ Some step → Held (dist.Float d) → valid_dimension (dist.Float d) ≡ true → OnSteps d step
