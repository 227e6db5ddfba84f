-- Its two tests are those of the definition.
use Rattle.real.proofs.clamp.Statement.{statement}
use Rattle.real.proofs.clamp.Tie as tie

returns : tie.Need-returns-then-x-low
returns c = rw c.if-x-low.true

returns-2 : tie.Need-returns-then-x-high
returns-2 c = rw (c.if-x-low.false, c.if-x-high.true)

returns-3 : tie.Need-returns
returns-3 c = rw (c.if-x-low.false, c.if-x-high.false)

pub clamp_spec : {M : Type 1} → statement M
clamp_spec = tie.close (tie.spec returns returns-2 returns-3)
