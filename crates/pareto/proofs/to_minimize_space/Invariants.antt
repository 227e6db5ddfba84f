-- the first j values stand in the row
use Rattle.std.proofs.Common.{◌≡◌}
use Rattle.model.specs.Lists.{list_below, over}
use Rattle.model.specs.Row.{minimised}
use Rattle.pareto.proofs.to_minimize_space.Given as goal

abbrev pub invariant-loop-j : goal.invariant-loop-j
invariant-loop-j l = l.row ≡ over (list_below (minimised l.directions l.values) l.j) l.initial.row
