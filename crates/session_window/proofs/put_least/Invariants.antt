-- the objectives before j have their least
use Rattle.std.proofs.Common.{◌≡◌, get_or}
use Rattle.std.specs.Float.{nan}
use Rattle.model.specs.Lists.{list_below, over}
use Rattle.session_window.specs.Sources.{least_in}
use Rattle.session_window.proofs.put_least.Given as goal

abbrev pub invariant-loop-j : goal.invariant-loop-j
invariant-loop-j l = l.ideal ≡ over (list_below (λ i. least_in l.directions l.pool l.lines (get_or l.initial.ideal i nan) i) l.j) l.initial.ideal
