-- the least so far is that of the generations before g
use Rattle.std.proofs.Common.{◌≡◌}
use Rattle.model.specs.Window.{least_remembered}
use Rattle.session_window.proofs.least_remembered.Given as goal

abbrev pub invariant-loop-g : goal.invariant-loop-g
invariant-loop-g l = l.least ≡ least_remembered l.words l.at l.m l.g l.j
