-- q has been compared with the plans before p
use Rattle.domination.specs.Pools.{beats}
use Rattle.front_laws.specs.Post.{Raising}
use Rattle.dominator_counts.proofs.count_earlier.Given as goal

abbrev pub invariant-loop-p : goal.invariant-loop-p
invariant-loop-p l = Raising (beats l.pool) l.q l.initial.counts l.p l.counts l.c
