-- the terms before column j are subtracted
use Rattle.std.proofs.Common.{◌≡◌, ◌+◌, ◌-◌}
use Rattle.model.specs.Hyperplane.{less_known}
use Rattle.back_substitution.proofs.less_known.Given as goal

abbrev pub invariant-loop-j : goal.invariant-loop-j
invariant-loop-j l = l.left ≡ less_known l.m l.a l.x l.i (l.j - (l.i + 1))
