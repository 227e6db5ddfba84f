use Rattle.replay_session.proofs.answer_calls.Goals as goal

pub loop-init : goal.loop-init
loop-init c = c.requires _ _ _ _
