-- the places passed hold the same numbers
use Rattle.replay.specs.Verdicts.{Same}
use Rattle.replay.proofs.same.Given as goal

abbrev pub invariant-loop-i : goal.invariant-loop-i
invariant-loop-i l = Same l.i l.a l.b
