-- the counts below q are lowered by p, and those whom it frees below q stand in the order
use Rattle.domination.specs.Pools.{beats}
use Rattle.front_laws.specs.Post.{Releasing}
use Rattle.front_round.proofs.release.Given as goal

abbrev pub invariant-loop-q : goal.invariant-loop-q
invariant-loop-q l =
    Releasing (beats l.pool) l.p l.initial.counts l.initial.order l.at l.q l.counts l.order l.len
