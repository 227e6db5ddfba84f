-- the unknowns from i on are known
use Rattle.std.proofs.Common.{◌≡◌, ◌-◌}
use Rattle.model.specs.Hyperplane.{solved}
use Rattle.back_substitution.proofs.back_substitute.Given as goal

abbrev pub invariant-loop-i : goal.invariant-loop-i
invariant-loop-i l = l.x ≡ solved l.m l.a l.fn.x (l.m - l.i)
