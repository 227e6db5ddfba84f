-- what the step promises, but for the lists that are not handed out
use Rattle.session_breeding.proofs.Breeding.{taken_by}
use Rattle.session_breeding.proofs.step.Goals as goal

pub returns : goal.returns
returns c = taken_by _ _ _ c.operators_of-operators.ensures _ _ _ c.step.ensures
