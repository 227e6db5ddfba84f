-- `divisions_of`.
use mathlib.Core.Path.{ap, ◌∙◌}
use Rattle.model.specs.Reference.{or_else, auto_divisions, divisions_of}
use borrow.Author.Rules.{rules}
use Rattle.divisions.proofs.divisions_of.Statement.{statement}
use Rattle.divisions.proofs.divisions_of.Tie as tie

or-else-requires : tie.Need-or_else-requires
or-else-requires c κs = tt

auto-divisions-requires : tie.Need-auto_divisions-automatic-requires
auto-divisions-requires c κs = search rules

or-else-requires-2 : tie.Need-or_else-requires-2
or-else-requires-2 c κs = tt

returns : tie.Need-returns
unfolding divisions_of
returns c =
    let a = c.args in
    c.or_else-2.ensures
    ∙ ap (or_else a.divisions) (c.auto_divisions-automatic.ensures ∙ ap (auto_divisions a.m) c.or_else.ensures)

pub divisions_of_spec : {M : Type 1} → statement M
divisions_of_spec =
    tie.close (tie.spec or-else-requires auto-divisions-requires or-else-requires-2 returns)
