-- `left` more of those that have it are to be passed
use Rattle.niching_array_laws.specs.Niche.{is_least}
use Rattle.niching_array_laws.proofs.Places.{Seeks}
use Rattle.niching_lines.proofs.nth_least.Given as goal

abbrev pub invariant-loop-l : goal.invariant-loop-l
invariant-loop-l l = Seeks (is_least l.counts l.waits l.least) l.k l.left l.l
