-- the objectives before j have their least
use Rattle.std.proofs.Common.{◌≡◌}
use Rattle.model.specs.Lists.{list_below, over}
use Rattle.model.specs.Window.{least_remembered}
use Rattle.session_window.proofs.put_start.Given as goal

abbrev pub invariant-loop-j : goal.invariant-loop-j
invariant-loop-j l = l.ideal ≡ over (list_below (least_remembered l.words l.at l.m l.n) l.j) l.initial.ideal
