-- the first slice's plans, and then the second's
use Rattle.std.proofs.Common.{◌∙◌}
use Rattle.settings.proofs.Valid.{few}
use Rattle.session_pool_checks.proofs.Joined.{parents-first, parents-second}
use Rattle.session_pool_checks.proofs.bad_parents.Goals as goal

pub bad_parents-requires : goal.bad_parents-requires
bad_parents-requires c = few _ _ c.requires.0.dimensions

pub returns-then-bad_parents : goal.returns-then-bad_parents
returns-then-bad_parents c =
    let a = c.args in
    c.if-bad_parents.true
    ∙ parents-first a.session c.requires.0 a.waiting.now a.children.now c.requires.1 _ c.bad_parents.ensures c.if-bad_parents.true

pub bad_parents-requires-else-bad_parents : goal.bad_parents-requires-else-bad_parents
bad_parents-requires-else-bad_parents c = few _ _ c.requires.0.dimensions

pub returns-else-bad_parents : goal.returns-else-bad_parents
returns-else-bad_parents c =
    let a = c.args in
    parents-second a.session c.requires.0 a.waiting.now a.children.now c.requires.1 _ _ c.bad_parents.ensures c.if-bad_parents.false c.bad_parents-else-bad_parents.ensures
