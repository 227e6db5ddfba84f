-- the distances decide where the square is below the best one, but not clearly; elsewhere the squares do
use lib.Ieee.{of_bits}
use Rattle.association_laws.proofs.Search.{found_clear, found-nearer, found-same, found_farther}
use Rattle.block_search.proofs.nearer.Goals as goal

pub returns-then-squares-least_squares-2 : goal.returns-then-squares-least_squares-2
unfolding of_bits
returns-then-squares-least_squares-2 c = λ d f S own. found_clear _ d _ _ _ _ f S own c.if-squares-least_squares.true c.if-squares-least_squares-2.true

pub returns-then-distance-least : goal.returns-then-distance-least
returns-then-distance-least c = λ d f S own. found-nearer _ d _ _ _ _ f S own _ _ c.measure-distance.ensures c.measure-least.ensures c.if-distance-least.true

pub returns-else-distance-least : goal.returns-else-distance-least
returns-else-distance-least c = λ d f S own. found-same _ d _ _ _ _ f S own _ _ c.measure-distance.ensures c.measure-least.ensures c.if-distance-least.false

pub returns-else-squares-least_squares : goal.returns-else-squares-least_squares
returns-else-squares-least_squares c = λ d f S own. found_farther _ d _ _ _ _ f S own c.if-squares-least_squares.false
