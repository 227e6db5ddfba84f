-- `fill`: the session property holds whatever the slices hold at first.
use Rattle.session_main.proofs.fill.Goals as goal

pub loop-i-init : goal.loop-i-init
loop-i-init g c = c.requires.session_ok _ _ _ _
