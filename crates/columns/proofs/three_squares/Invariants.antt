-- the plans before b have their square
use Rattle.std.proofs.Common.{◌≡◌}
use Rattle.model.specs.Lists.{list_below, over}
use Rattle.model.specs.Association.{squares_of}
use Rattle.association_laws.specs.Flat.{from}
use Rattle.columns.specs.Block.{plan_at}
use Rattle.columns.proofs.three_squares.Given as goal

abbrev pub invariant-loop-b : goal.invariant-loop-b
invariant-loop-b l = l.squares ≡ over (list_below (λ i. squares_of 3 (plan_at l.x l.len i) (from l.table l.line_at)) l.b) l.initial.squares
