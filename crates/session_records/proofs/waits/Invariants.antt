-- none of the plans before i has the number
use Rattle.std.proofs.Common.{◌≡◌, false}
use Rattle.model.specs.Lists.{any_below}
use Rattle.session_records.proofs.Records.{is_record}
use Rattle.session_records.proofs.waits.Given as goal

abbrev pub invariant-loop-i : goal.invariant-loop-i
invariant-loop-i l = any_below (is_record l.pool l.plan) l.i ≡ false
