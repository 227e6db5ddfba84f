-- the least so far is that of the plans before p that count
use Rattle.std.proofs.Common.{◌≡◌}
use Rattle.model.specs.Lists.{keep_below}
use Rattle.model.specs.Plan.{plan_at}
use Rattle.model.specs.Row.{row_of}
use Rattle.model.specs.Association.{least_from}
use Rattle.session_window.specs.Sources.{counted}
use Rattle.session_window.proofs.least_value.Given as goal

abbrev pub invariant-loop-p : goal.invariant-loop-p
invariant-loop-p l = l.least ≡ least_from l.start (λ p. row_of l.directions (plan_at l.pool p) l.j) (keep_below (counted l.every l.lines) l.p)
