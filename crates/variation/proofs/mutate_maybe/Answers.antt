-- The draw decides.
use Rattle.std.proofs.Common.{true, false, ◌∙◌}
use Rattle.variation.proofs.Maybe.{maybe_by}
use Rattle.variation.proofs.mutate_maybe.Goals as goal

pub returns-then-x-probability : goal.returns-then-x-probability
returns-then-x-probability c =
    let a = c.args in
    maybe_by a.probability a.d a.v a.k a.rng.s _ _ c.f64_range-x.ensures true c.if-x-probability.true

pub returns-else-x-probability : goal.returns-else-x-probability
returns-else-x-probability c =
    let a = c.args in
    c.mutate_one.ensures ∙ maybe_by a.probability a.d a.v a.k a.rng.s _ _ c.f64_range-x.ensures false c.if-x-probability.false
