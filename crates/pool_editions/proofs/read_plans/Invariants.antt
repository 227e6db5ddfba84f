-- i plans are read so far, up to p, each in its block
use Rattle.pool_editions.specs.Editions.{Plans}
use Rattle.pool_editions.proofs.read_plans.Given as goal

abbrev pub invariant-loop-i : goal.invariant-loop-i
invariant-loop-i l = Plans l.second l.file l.at l.m l.i l.pool l.p
