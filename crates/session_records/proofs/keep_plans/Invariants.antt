-- the plans that the places before i name are put
use Rattle.std.proofs.Common.{◌≡◌}
use Rattle.model.specs.Lists.{over}
use Rattle.model.specs.Session.{kept_words}
use Rattle.session_records.proofs.keep_plans.Given as goal

abbrev pub invariant-loop-i : goal.invariant-loop-i
invariant-loop-i l = l.to ≡ over (kept_words l.bred l.kept l.i) l.initial.to
