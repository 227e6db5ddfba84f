-- the plans before i stand in history
use Rattle.std.proofs.Common.{◌≡◌, true}
use Rattle.model.specs.Lists.{all_below}
use Rattle.model.specs.Session.{stands_in}
use Rattle.session_records.proofs.evaluated.Given as goal

abbrev pub invariant-loop-i : goal.invariant-loop-i
invariant-loop-i l = all_below (stands_in l.history l.plans) l.i ≡ true
