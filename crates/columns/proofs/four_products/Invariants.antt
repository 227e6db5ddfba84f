-- the plans before b have four products more
use Rattle.std.proofs.Common.{◌≡◌, ◌+◌}
use Rattle.model.specs.Lists.{list_below, over}
use Rattle.model.specs.Association.{dot}
use Rattle.association_laws.specs.Flat.{from}
use Rattle.columns.specs.Block.{plan_at}
use Rattle.columns.proofs.four_products.Given as goal

abbrev pub invariant-loop-b : goal.invariant-loop-b
invariant-loop-b l = l.sums ≡ over (list_below (λ i. dot (l.j + 4) (plan_at l.x l.len i) (from l.table l.line_at)) l.b) l.initial.sums
