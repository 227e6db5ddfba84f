-- a count that p's test would lower is not zero
use mathlib.Core.Path.{sym}
use native.Mathlib.Omega.{arith}
use borrow.Author.Rules.{rules}
use Rattle.list_laws.proofs.Bools.{one_false}
use Rattle.domination.proofs.dominates_counted.Statement.{statement}
use Rattle.domination.proofs.dominates_counted.Tie as tie

returns : tie.Need-returns-then-count-eq0
returns c = sym (one_false _ (omega arith))

constrained-dominates-requires : tie.Need-constrained_dominates-requires
constrained-dominates-requires c κs = search rules

returns-2 : tie.Need-returns
returns-2 c = search rules

pub dominates_counted_spec : {M : Type 1} → statement M
dominates_counted_spec = tie.close (tie.spec returns constrained-dominates-requires returns-2)
