-- the best is that of the lines before l
use Rattle.association_laws.specs.Flat.{distance_at}
use Rattle.association_laws.specs.Search.{Found}
use Rattle.association.proofs.nearest_line.Given as goal

abbrev pub invariant-loop-l : goal.invariant-loop-l
invariant-loop-l l = Found l.edition (distance_at l.edition l.points l.at l.m l.table) l.l l.best.line l.best.squares
