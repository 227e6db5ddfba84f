-- the nearest of the members passed
use Rattle.std.proofs.Common.{length}
use Rattle.niching_array_laws.specs.Niche.{waits_on, place_distance}
use Rattle.niching_array_laws.proofs.Nearest.{NearestSo}
use Rattle.niching_members.proofs.nearest_member.Given as goal

abbrev pub invariant-loop-i : goal.invariant-loop-i
invariant-loop-i l = NearestSo (place_distance l.front l.distances) (waits_on l.front l.lines l.taken l.fn.l) (length l.front) l.i l.best
