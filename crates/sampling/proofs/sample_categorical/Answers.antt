use Rattle.model.specs.declared.ParamValue.TheVariants as value
use Rattle.model.specs.Setting.{sample_random}
use Rattle.list_laws.proofs.Draws.{drawn-by}
use Rattle.settings.proofs.Valid.{some-choice}
use Rattle.sampling.proofs.sample_categorical.Goals as goal

pub draw_usize-c-requires : goal.draw_usize-c-requires
draw_usize-c-requires c = some-choice c.args.d c.requires

pub returns : goal.returns
unfolding sample_random
returns c = drawn-by value.Categorical c.draw_usize-c.ensures
