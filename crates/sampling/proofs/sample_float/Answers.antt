use Rattle.model.specs.declared.ParamValue.TheVariants as value
use Rattle.model.specs.Setting.{sample_random}
use Rattle.list_laws.proofs.Draws.{drawn-by}
use Rattle.sampling.proofs.sample_float.Goals as goal

pub returns : goal.returns
unfolding sample_random
returns c = drawn-by value.Float c.sample_real-x.ensures
