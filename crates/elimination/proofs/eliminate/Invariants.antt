-- the steps before k are done
use Rattle.std.proofs.Common.{◌≡◌}
use Rattle.model.specs.Hyperplane.{eliminated}
use Rattle.elimination.proofs.eliminate.Given as goal

abbrev pub invariant-loop-k : goal.invariant-loop-k
invariant-loop-k l = l.a ≡ eliminated l.m l.fn.a l.k
