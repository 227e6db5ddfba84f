-- the plans before b have four squares more
use Rattle.std.proofs.Common.{◌≡◌, ◌+◌, get_or}
use lib.Ieee.{nan}
use Rattle.model.specs.Lists.{list_below, over}
use Rattle.model.specs.Association.{off_squares}
use Rattle.association_laws.specs.Flat.{from}
use Rattle.columns.specs.Block.{plan_at}
use Rattle.columns.proofs.four_squares.Given as goal

abbrev pub invariant-loop-b : goal.invariant-loop-b
invariant-loop-b l = l.sums ≡ over (list_below (λ i. off_squares (l.j + 4) (plan_at l.x l.len i) (from l.table l.line_at) (get_or l.t i nan)) l.b) l.initial.sums
