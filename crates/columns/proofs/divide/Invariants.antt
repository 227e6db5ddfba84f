-- the plans before b have their quotient
use Rattle.std.proofs.Common.{◌≡◌}
use Rattle.model.specs.Lists.{list_below, over}
use Rattle.columns.specs.Block.{quotient}
use Rattle.columns.proofs.divide.Given as goal

abbrev pub invariant-loop-b : goal.invariant-loop-b
invariant-loop-b l = l.sums ≡ over (list_below (quotient l.initial.sums l.norm) l.b) l.initial.sums
