use Rattle.session_steps.proofs.States.{activate_is}
use Rattle.session_steps.proofs.activate.Goals as goal

pub returns : goal.returns
returns c ps ns pool = activate_is _ _ _ _ ps ns pool _ c.renewed.ensures c.sample_candidates-rng.ensures.words c.sample_candidates-rng.ensures.state
