-- `bad_session_divisions`: refusal 4 of the divisions that the session would use.
use mathlib.Core.Path.{ap, ◌∙◌}
use Rattle.model.specs.Refusal.{bad_divisions}
use Rattle.reference_laws.proofs.Divisions.{session-bad}
use borrow.Author.Rules.{rules}
use Rattle.divisions.proofs.bad_session_divisions.Statement.{statement}
use Rattle.divisions.proofs.bad_session_divisions.Tie as tie

divisions-of-requires : tie.Need-divisions_of-requires
divisions-of-requires c κs = search rules

bad-divisions-requires : tie.Need-bad_divisions-requires
bad-divisions-requires c κs = search rules

returns : tie.Need-returns
returns c =
    let a = c.args in
    c.bad_divisions.ensures ∙ ap (bad_divisions a.m) c.divisions_of.ensures ∙ session-bad a.m _ _

pub bad_session_divisions_spec : {M : Type 1} → statement M
bad_session_divisions_spec =
    tie.close (tie.spec divisions-of-requires bad-divisions-requires returns)
