-- candidates that are too short make the call one that is refused, which any session may make
use Rattle.session_calls.proofs.Property.{too_short}
use Rattle.replay_session.proofs.sampled_of.Goals as goal

pub sampled-requires-clause-session_ok : goal.sampled-requires-clause-session_ok
sampled-requires-clause-session_ok c = c.requires.session_ok _ _ _ _ (too_short _ _ _ _ _ c.requires.held_bound.1)
