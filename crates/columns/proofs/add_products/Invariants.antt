-- the plans before b have one product more
use Rattle.std.proofs.Common.{◌≡◌}
use Rattle.model.specs.Lists.{list_below, over}
use Rattle.columns.specs.Block.{product_more}
use Rattle.columns.proofs.add_products.Given as goal

abbrev pub invariant-loop-b : goal.invariant-loop-b
invariant-loop-b l = l.sums ≡ over (list_below (product_more l.initial.sums l.x l.at l.r) l.b) l.initial.sums
