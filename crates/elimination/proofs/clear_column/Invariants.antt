-- the rows from below row k to before i are done
use Rattle.std.proofs.Common.{◌≡◌, ◌+◌, ◌-◌}
use Rattle.model.specs.Hyperplane.{cleared}
use Rattle.elimination.proofs.clear_column.Given as goal

abbrev pub invariant-loop-i : goal.invariant-loop-i
invariant-loop-i l = l.a ≡ cleared l.m l.fn.a l.k (l.i - (l.k + 1))
