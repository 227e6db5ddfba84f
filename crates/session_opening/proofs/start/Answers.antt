-- 1 / 0 is plus infinity
use lib.Ieee.{div, of_bits}
use Rattle.session_opening.proofs.start.Goals as goal

pub returns : goal.returns
unfolding div of_bits
returns c = rw c.blank_dimensions.ensures
