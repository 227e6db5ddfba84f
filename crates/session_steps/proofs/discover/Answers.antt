use Rattle.session_steps.proofs.States.{discover_is}
use Rattle.session_steps.proofs.discover.Goals as goal

pub returns : goal.returns
returns c cs ps ns pool = discover_is _ _ _ _ _ cs ps ns pool c.sample_random-v.ensures
