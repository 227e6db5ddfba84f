-- `further`: the pattern rises to that of 2^52, and the count no faster.
use Rattle.std.proofs.Common.{◌-◌, ◌≤◌}
use Rattle.roots_main.proofs.further.Given as goal

abbrev pub invariant-loop-at : goal.invariant-loop-at
invariant-loop-at l = l.n ≤ l.at

abbrev pub decreases-loop-at : goal.decreases-loop-at
decreases-loop-at l = 0x4330_0000_0000_0000 - l.at
