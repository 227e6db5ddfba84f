-- Its draw decides whether it runs.
use Rattle.std.proofs.Common.{true, false, ◌∙◌}
use Rattle.settings.specs.Candidate.{settings_of}
use Rattle.model.specs.Setting.{dimensions_of}
use Rattle.genetic.proofs.Steps.{crossover-by}
use Rattle.genetic.proofs.crossover.Goals as goal

pub returns-then-u-probability : goal.returns-then-u-probability
returns-then-u-probability c =
    let a = c.args in
    crossover-by (dimensions_of a.dims) a.n a.probability a.k (settings_of a.p a.n) (settings_of a.q a.n) a.rng.s _ _ c.f64_range-u.ensures true c.if-u-probability.true

pub returns : goal.returns
returns c =
    let a = c.args in
    c.cross_all.ensures
    ∙ crossover-by (dimensions_of a.dims) a.n a.probability a.k (settings_of a.p a.n) (settings_of a.q a.n) a.rng.s _ _ c.f64_range-u.ensures false
    c.if-u-probability.false
