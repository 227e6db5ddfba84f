-- the root of the digits read so far, and what is left of them
use Rattle.real_laws.proofs.Roots.Digits.{Turns}
use Rattle.square_root.proofs.near_root.Given as goal

abbrev pub invariant-loop-i : goal.invariant-loop-i
invariant-loop-i l = Turns l.a l.rest l.rem l.root l._i
