-- none of the last j records is the plan's
use Rattle.std.proofs.Common.{◌≡◌, ℕ, ◌-◌, ◌≤◌, ◌<◌, false}
use Rattle.session_records.proofs.Records.{is_record}
use Rattle.session_records.proofs.record_of.Given as goal

abbrev pub invariant-loop-j : goal.invariant-loop-j
invariant-loop-j l = (t : ℕ) → l.n - l.j ≤ t → t < l.n → is_record l.history l.plan t ≡ false
