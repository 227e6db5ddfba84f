use Rattle.session_steps.proofs.States.{enter_is}
use Rattle.session_steps.proofs.enter.Goals as goal

pub returns : goal.returns
returns c cs pool = enter_is _ _ cs _ _ pool _ c.with_progress.ensures
