-- Where refusals 6 and 12 do not apply to a Float's dimension, k can be drawn.
use Rattle.std.specs.Prelude.{Option, None, Some}
use mathlib.Core.Path.{◌≡◌, subst}
use mathlib.Core.Bool.{true}
use lib.Ieee.{Float}
use Rattle.model.specs.declared.Distribution.{Distribution}
use Rattle.model.specs.declared.Distribution.TheVariants as dist
use Rattle.model.specs.declared.FloatDistribution.{FloatDistribution}
use Rattle.model.specs.Setting.{valid_dimension}
use Rattle.settings.proofs.InBounds.{Held, StepOk, float_step}
use Rattle.settings.proofs.OnStep.{last_spanned}
use Rattle.sampling.specs.Steps.{StepSpanned}

spanned : (low high : Float) (o : Option Float) → StepOk low high o → StepSpanned low high o
spanned low high None q = tt
spanned low high (Some step) q = last_spanned low high step q

pub step_spanned : (d : Distribution) (f : FloatDistribution) → d ≡ dist.Float f → Held d → valid_dimension d ≡ true → StepSpanned f.low f.high f.step
step_spanned d f e h v = spanned f.low f.high f.step (float_step f (subst Held e h) (subst (λ (x : Distribution). valid_dimension x ≡ true) e v))
