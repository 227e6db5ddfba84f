-- the sum is that of the constraints before place i
use Rattle.std.proofs.Common.{◌≡◌}
use Rattle.front_laws.proofs.Violation.{violation_to}
use Rattle.domination.proofs.total_violation.Given as goal

abbrev pub invariant-loop-c : goal.invariant-loop-c
invariant-loop-c l = l.sum ≡ violation_to l.constraints l.c-index
