use Rattle.session_laws.proofs.Steps.{short_ok}
use Rattle.replay_session.proofs.answer_call.Goals as goal

pub tried_short-r-requires-clause-session_ok : goal.tried_short-r-requires-clause-session_ok
tried_short-r-requires-clause-session_ok c = λ cs ps ns pool short. short_ok _ _ _ _ _ cs ps ns pool c.requires.session_ok short
