-- What is asked of a Float's step: k can be drawn from 0 to the greatest.
use Rattle.std.specs.Prelude.{pos, Float, Option, None, Some}
use Rattle.model.specs.Setting.{last_step}
use Rattle.rng_util.specs.Span.{Spanned}

abbrev pub StepSpanned : Float → Float → Option Float → Type 0
StepSpanned low high None = Unit
StepSpanned low high (Some step) = Spanned (pos 0) (last_step low high step)
