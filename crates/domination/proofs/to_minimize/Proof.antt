use Rattle.front_laws.proofs.Plans.{maximised}
use Rattle.domination.proofs.to_minimize.Statement.{statement}
use Rattle.domination.proofs.to_minimize.Tie as tie

returns : tie.Need-returns-then-direction-eq0
returns c = rw c.if-direction-eq0.true

returns-2 : tie.Need-returns-else-direction-eq0
returns-2 c = let e = maximised c.args.direction c.if-direction-eq0.false in rw e

pub to_minimize_spec : {M : Type 1} → statement M
to_minimize_spec = tie.close (tie.spec returns returns-2)
