-- none of the plans before i has the number
use Rattle.std.proofs.Common.{◌≡◌, ℕ, ◌<◌, eqb, false, get_or, take}
use Rattle.session_records.proofs.place_in.Given as goal

abbrev pub invariant-loop-i : goal.invariant-loop-i
invariant-loop-i l = (t : ℕ) → t < l.i → eqb (get_or (take l.n l.plans) t 0) l.plan ≡ false
