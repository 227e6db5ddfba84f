-- plus infinity is 1 / 0
use Rattle.std.proofs.Common.{sym, ◌∙◌}
use lib.Ieee.{div, of_bits}
use Rattle.plans.proofs.good_entry.Goals as goal

pub returns-else-measurable : goal.returns-else-measurable
unfolding div of_bits
returns-else-measurable c = let e = sym c.measurable.ensures ∙ c.if-measurable.false in rw e
