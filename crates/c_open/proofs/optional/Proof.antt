-- A mark that is not 0 is yes.
use mathlib.Core.Path.{refl, sym}
use Rattle.export_laws.specs.Coded.{optional}
use borrow.Author.Rules.{rules}
use Rattle.c_open.proofs.optional.Statement.{statement}
use Rattle.c_open.proofs.optional.Tie as tie
use Rattle.list_laws.proofs.Below.{by_suc}

returns : tie.Need-returns-then-has-eq0
returns c = search rules

returns-2 : tie.Need-returns
returns-2 c = let a = c.args in sym (by_suc (λ k. optional k a.n) _ (λ k. refl) a.has c.if-has-eq0.false)

pub optional_spec : {M : Type 1} → statement M
optional_spec = tie.close (tie.spec returns returns-2)
