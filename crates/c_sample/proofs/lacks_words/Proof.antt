-- By whether the call adds a dimension.
use mathlib.Core.Path.{refl, sym, ◌∙◌}
use Rattle.list_laws.proofs.Bools.{and_not, past}
use Rattle.c_sample.proofs.lacks_words.Statement.{statement}
use Rattle.c_sample.proofs.lacks_words.Tie as tie

discovers-requires : tie.Need-discovers-requires
discovers-requires c κs = tt

returns : tie.Need-returns-then-discovers
returns c = sym (past (sym c.discovers.ensures ∙ c.if-discovers.true) refl)

returns-2 : tie.Need-returns
returns-2 c = sym (and_not _ _ (sym c.discovers.ensures ∙ c.if-discovers.false))

pub lacks_words_spec : {M : Type 1} → statement M
lacks_words_spec = tie.close (tie.spec discovers-requires returns returns-2)
