-- the first `at` open places are filled, and the arrays hold what that leaves
use lib.ListN.{take}
use Rattle.niching_array_laws.proofs.Selecting.{Selecting}
use Rattle.niching.proofs.niching_select.Given as goal

abbrev pub invariant-loop-at : goal.invariant-loop-at
invariant-loop-at l = Selecting (take l.start l.order) l.front l.lines l.distances l.n_lines l.initial.rng.s l.initial.picked l.initial.rules l.at l.counts l.waits l.taken l.picked l.rules l.rng.s
