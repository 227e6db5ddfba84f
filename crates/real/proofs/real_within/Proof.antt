-- The two tests are those of the definition.
use Rattle.real.proofs.real_within.Statement.{statement}
use Rattle.real.proofs.real_within.Tie as tie

returns : tie.Need-returns-then-low-x
returns c = rw c.if-low-x.true

returns-2 : tie.Need-returns-else-low-x
returns-2 c = rw c.if-low-x.false

pub real_within_spec : {M : Type 1} → statement M
real_within_spec = tie.close (tie.spec returns returns-2)
