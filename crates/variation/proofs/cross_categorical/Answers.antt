-- One draw, whatever it says.
use Rattle.std.proofs.Common.{true, false}
use Rattle.variation.proofs.Crossing.{cross_categorical_is}
use Rattle.variation.proofs.cross_categorical.Goals as goal

pub returns-then-u : goal.returns-then-u
returns-then-u c = let a = c.args in cross_categorical_is a.p a.q a.rng.s _ _ true c.f64_range-u.ensures c.if-u.true

pub returns-else-u : goal.returns-else-u
returns-else-u c = let a = c.args in cross_categorical_is a.p a.q a.rng.s _ _ false c.f64_range-u.ensures c.if-u.false
