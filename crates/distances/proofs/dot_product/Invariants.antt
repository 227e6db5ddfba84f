-- the sum is that of the first j products
use Rattle.std.proofs.Common.{◌≡◌}
use Rattle.model.specs.Association.{dot}
use Rattle.association_laws.specs.Flat.{from}
use Rattle.distances.proofs.dot_product.Given as goal

abbrev pub invariant-loop-j : goal.invariant-loop-j
invariant-loop-j l = l.sum ≡ dot l.j (from l.a l.i) (from l.b l.k)
