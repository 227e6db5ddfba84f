-- the two ends are -2^1000 and 2^1000
use lib.Ieee.{neg, of_bits}
use Rattle.model.specs.Refusal.{measurable}
use Rattle.plans.proofs.measurable.Goals as goal

pub returns : goal.returns
unfolding measurable of_bits neg
returns c = c.real_within.ensures
