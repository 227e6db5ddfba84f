-- at h divisions, no smaller number reaches the target
use Rattle.reference_laws.proofs.First.{Missed}
use Rattle.divisions.proofs.auto_divisions.Given as goal

abbrev pub invariant-loop-h : goal.invariant-loop-h
invariant-loop-h l = Missed l.m l.target l.h
