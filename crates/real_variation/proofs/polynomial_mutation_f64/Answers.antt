-- The draw comes first.
use Rattle.real_variation.proofs.Mutating.{stays, moves}
use Rattle.real_variation.proofs.polynomial_mutation_f64.Goals as goal

pub returns-then-range : goal.returns-then-range
returns-then-range c = let a = c.args in stays a.x a.low a.high a.k a.rng.s _ _ c.f64_range-d.ensures c.if-range.true

pub returns : goal.returns
returns c =
    let a = c.args in
    moves a.x a.low a.high a.k a.rng.s _ _ c.f64_range-d.ensures _ _ c.if-range.false c.mutation_shift-shift.ensures c.clamp-value.ensures
