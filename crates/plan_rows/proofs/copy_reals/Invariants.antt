-- the first j reals stand at the front
use Rattle.std.proofs.Common.{◌≡◌, ◌+◌, get_or}
use Rattle.model.specs.Lists.{list_below, over}
use Rattle.model.specs.Real.{real}
use Rattle.plan_rows.proofs.copy_reals.Given as goal

abbrev pub invariant-loop-j : goal.invariant-loop-j
invariant-loop-j l = l.out ≡ over (list_below (λ i. real (get_or l.words (l.at + i) 0)) l.j) l.initial.out
