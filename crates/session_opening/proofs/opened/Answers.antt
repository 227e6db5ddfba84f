-- each part is as the definition has it
use Rattle.std.proofs.Common.{◌∙◌}
use Rattle.demand3_laws.proofs.Passed.{some-objectives}
use Rattle.session_opening.proofs.Opening.{opened_is}
use Rattle.session_opening.proofs.opened.Goals as goal

pub divisions_of-h-requires : goal.divisions_of-h-requires
divisions_of-h-requires c = some-objectives _ c.requires.0

pub population_size-n-requires-clause-le_m : goal.population_size-n-requires-clause-le_m
population_size-n-requires-clause-le_m c = some-objectives _ c.requires.0

pub marks_of-requires : goal.marks_of-requires
marks_of-requires c = (some-objectives _ c.requires.0).1

pub returns : goal.returns
returns c = c.start.ensures ∙ opened_is _ _ _ _ _ _ _ _ _ _ _ _ c.marks_of.ensures c.divisions_of-h.ensures c.population_size-n.ensures
