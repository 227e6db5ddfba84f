use lib.Ieee.{of_bits, neg}
use Rattle.operator_checks.proofs.within_limits.Goals as goal

pub returns : goal.returns
unfolding of_bits neg
returns c = c.real_within.ensures
