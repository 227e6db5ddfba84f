-- `left` more of those that wait on the line are to be passed
use Rattle.niching_array_laws.specs.Niche.{waits_on}
use Rattle.niching_array_laws.proofs.Places.{Seeks}
use Rattle.niching_members.proofs.nth_member.Given as goal

abbrev pub invariant-loop-i : goal.invariant-loop-i
invariant-loop-i l = Seeks (waits_on l.front l.lines l.taken l.fn.l) l.k l.left l.i
