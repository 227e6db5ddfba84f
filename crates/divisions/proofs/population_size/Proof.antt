-- `population_size`.
use mathlib.Core.Path.{◌≡◌, ap, ◌∙◌}
use native.Mathlib.Omega.{arith}
use Rattle.model.specs.Reference.{or_else, point_count, divisions_of}
use Rattle.reference_laws.proofs.Divisions.{session_allowed, population_small, population_large}
use borrow.Author.Rules.{rules}
use Rattle.divisions.proofs.population_size.Statement.{statement}
use Rattle.divisions.proofs.population_size.Tie as tie

divisions-of-requires : tie.Need-divisions_of-requires
divisions-of-requires c κs = search rules

point-count-requires : tie.Need-point_count-requires
point-count-requires c κs =
    let s = c in
    omega (arith, c.divisions_of.ensures, session_allowed s.args.m _ _ s.requires.1)

or-else-requires : tie.Need-or_else-n-requires
or-else-requires c κs = tt

-- the size given, or else the point count
sized : (c : tie.After-or_else-n) →
    let a = c.args in
    c.or_else-n.result ≡ or_else a.size (point_count a.m (divisions_of a.m a.size a.divisions))
sized c =
    let a = c.args in
    c.or_else-n.ensures ∙ ap (or_else a.size) (c.point_count.ensures ∙ ap (point_count a.m) c.divisions_of.ensures)

returns : tie.Need-returns-then-n-lt4
returns c = population_small _ _ _ _ (sized c.before) c.if-n-lt4.true

returns-2 : tie.Need-returns-else-n-lt4
returns-2 c = population_large _ _ _ _ (sized c.before) c.if-n-lt4.false

pub population_size_spec : {M : Type 1} → statement M
population_size_spec =
    tie.close
    (tie.spec divisions-of-requires point-count-requires or-else-requires returns returns-2)
