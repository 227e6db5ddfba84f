-- no value passed is a NaN
use Rattle.std.proofs.Common.{◌≡◌, ℕ, ◌<◌, false, get_or}
use lib.Ieee.{nan, is_nan}
use Rattle.replay_fronts.proofs.known.Given as goal

abbrev pub invariant-loop-i : goal.invariant-loop-i
invariant-loop-i l = (k : ℕ) → k < l.i → is_nan (get_or l.rows k nan) ≡ false
