-- after i digits of k the state is as many words on as they form
use Rattle.jump_laws.specs.Steps.{Passed}
use Rattle.jump.proofs.jump.Given as goal

abbrev pub invariant-loop-i : goal.invariant-loop-i
invariant-loop-i l = Passed l.k l.fn.rng.s l._i l.left l.a l.c l.s
