-- the best so far is the first before p with the least asf, which is at hand
use Rattle.std.proofs.Common.{◌≡◌}
use lib.Ieee.{lt}
use Rattle.model.specs.Lists.{best_from}
use Rattle.model.specs.Hyperplane.{asf}
use Rattle.hyperplane_laws.specs.Flat.{row_at, listed}
use Rattle.extremes.proofs.extreme_of.Given as goal

abbrev pub invariant-loop-p : goal.invariant-loop-p
invariant-loop-p l = record {
  best : l.best ≡ best_from (λ p q. lt (asf l.m (row_at l.rows l.m p) (listed l.ideal) l.i) (asf l.m (row_at l.rows l.m q) (listed l.ideal) l.i)) 0 (λ p. p) l.p;
  least : l.least ≡ asf l.m (row_at l.rows l.m l.best) (listed l.ideal) l.i;
}
