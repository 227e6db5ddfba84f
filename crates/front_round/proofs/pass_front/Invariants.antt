-- the members of the front before place i have had their turns
use Rattle.domination.specs.Pools.{beats}
use Rattle.front_laws.specs.Post.{Passing}
use Rattle.front_round.proofs.pass_front.Given as goal

abbrev pub invariant-loop-i : goal.invariant-loop-i
invariant-loop-i l =
    Passing (beats l.pool) l.n l.k l.start l.end l.initial.counts l.initial.order l.initial.rank l.i l.counts l.order l.rank l.len
