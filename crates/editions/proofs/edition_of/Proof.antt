-- `edition_of`: 2 and any other number
use borrow.Author.Tests.{eq-eqb, ne_eqb}
use Rattle.editions.proofs.edition_of.Statement.{statement}
use Rattle.editions.proofs.edition_of.Tie as tie

returns : tie.Need-returns-then-n-eq2
returns c = simp (eq-eqb _ 2 c.if-n-eq2.true)

returns-2 : tie.Need-returns
returns-2 c = simp (ne_eqb _ 2 c.if-n-eq2.false)

pub edition_of_spec : {M : Type 1} → statement M
edition_of_spec = tie.close (tie.spec returns returns-2)
