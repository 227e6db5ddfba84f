-- `fill`: each call leaves the session property.
use Rattle.model.specs.Session.{state}
use Rattle.model.specs.Property.{SessionOk}
use Rattle.session_main.proofs.fill.Given as goal

abbrev pub invariant-loop-i : goal.invariant-loop-i
invariant-loop-i g l = SessionOk (state l.now l.candidates l.plans l.next_dims l.pool)
