use Rattle.std.proofs.Common.{ap, sym, ◌∙◌}
use lib.Ieee.{div, of_bits}
use Rattle.model.specs.Real.{◌⊘◌}
use Rattle.model.specs.Association.{off_squares}
use Rattle.association_laws.specs.Flat.{from}
use Rattle.association_laws.proofs.Search.{squares_short, squares_long}
use Rattle.distances.proofs.distance_squared.Goals as goal

-- a line that is too short is infinitely far
pub returns-then-norm : goal.returns-then-norm
unfolding div of_bits
returns-then-norm c = sym (squares_short _ _ _ _ c.requires.2 c.if-norm.true)

-- else the squares off the projection
pub returns-else-norm : goal.returns-else-norm
unfolding of_bits
returns-else-norm c =
    let a = c.args in
    let p = from a.points.now a.at in
    let r = from a.table.now a.line_at in
    c.off_squares.ensures ∙ ap (λ t. off_squares a.m p r (t ⊘ a.norm)) c.dot_product.ensures
    ∙ sym (squares_long _ p r _ c.requires.2 c.if-norm.false)
