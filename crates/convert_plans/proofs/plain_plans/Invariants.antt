-- i plans are turned so far, read up to p, and `held` tells whether the first edition can hold them
use Rattle.convert_plans.proofs.Turns.{Turned}
use Rattle.convert_plans.proofs.plain_plans.Given as goal

abbrev pub invariant-loop-i : goal.invariant-loop-i
invariant-loop-i l = Turned l.file l.at l.m l.initial.out l.initial.to l.i l.out l.to l.held l.p
