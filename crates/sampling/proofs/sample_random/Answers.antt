-- A Float's step spans what it is asked to.
use Rattle.typed_laws.proofs.Held.{dimension_held}
use Rattle.sampling.proofs.Spans.{step_spanned}
use Rattle.sampling.proofs.sample_random.Goals as goal

pub sample_float-requires : goal.sample_float-requires
sample_float-requires c = step_spanned c.args.d c.in-Float.f c.in-Float.is (dimension_held c.args.d _ c.well_formed.0) c.requires
