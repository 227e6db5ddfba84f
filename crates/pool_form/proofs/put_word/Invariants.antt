-- some groups are put, and those of what is left follow
use Rattle.pool_form.proofs.Groups.{Going}
use Rattle.pool_form.proofs.put_word.Given as goal

abbrev pub invariant-loop-left : goal.invariant-loop-left
invariant-loop-left l = Going l.n l.initial.out l.at l.left l.out l.p

abbrev pub decreases-loop-left : goal.decreases-loop-left
decreases-loop-left l = l.left
