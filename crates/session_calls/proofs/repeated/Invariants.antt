-- each call leaves the session property, and an answer
use Rattle.std.proofs.Common.{◌≡◌, eqb}
use Rattle.std.specs.Prelude.{is_none}
use Rattle.model.specs.Session.{state}
use Rattle.model.specs.Property.{SessionOk}
use Rattle.session_calls.proofs.repeated.Given as goal

abbrev pub invariant-loop-i : goal.invariant-loop-i
invariant-loop-i l = SessionOk (state l.last.session l.candidates l.plans l.next_dims l.pool) × (is_none l.last.outcome ≡ eqb l.i 0)
