-- each call keeps the session property
use Rattle.model.specs.Session.{state}
use Rattle.model.specs.Property.{SessionOk}
use Rattle.replay_session.proofs.answer_calls.Given as goal

abbrev pub invariant-loop : goal.invariant-loop
invariant-loop l = SessionOk (state l.session l.lent.candidates.now l.lent.plans.now l.lent.next_dims.now l.lent.pool.now)
