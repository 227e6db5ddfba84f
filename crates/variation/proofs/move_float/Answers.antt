use Rattle.model.specs.declared.ParamValue.TheVariants as value
use Rattle.list_laws.proofs.Draws.{drawn-by}
use Rattle.variation.proofs.move_float.Goals as goal

pub returns : goal.returns
returns c = drawn-by value.Float c.polynomial_mutation_f64-y.ensures
