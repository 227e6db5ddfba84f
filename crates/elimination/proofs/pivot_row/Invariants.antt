-- the best so far is that of the rows from k to before i
use Rattle.std.proofs.Common.{◌≡◌, ◌+◌, ◌-◌, ◌<◌}
use lib.Ieee.{lt}
use Rattle.model.specs.Lists.{best_from}
use Rattle.model.specs.Hyperplane.{entry, magnitude}
use Rattle.elimination.proofs.pivot_row.Given as goal

abbrev pub invariant-loop-i : goal.invariant-loop-i
invariant-loop-i l = record {
  below : l.best < l.m;
  best : l.best ≡ best_from (λ p q. lt (magnitude (entry l.a q l.k)) (magnitude (entry l.a p l.k))) l.k (λ t. l.k + t) (l.i - l.k);
}
