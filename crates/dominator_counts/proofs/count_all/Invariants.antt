-- the plans below q have been compared with each other
use Rattle.domination.specs.Pools.{beats}
use Rattle.front_laws.specs.Post.{Counted}
use Rattle.dominator_counts.proofs.count_all.Given as goal

abbrev pub invariant-loop-q : goal.invariant-loop-q
invariant-loop-q l = Counted (beats l.pool) l.q l.counts
