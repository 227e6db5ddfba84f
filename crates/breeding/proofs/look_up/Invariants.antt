-- the first i entries are looked up
use Rattle.std.proofs.Common.{◌≡◌, get_or}
use Rattle.model.specs.Lists.{list_below, over}
use Rattle.breeding.proofs.look_up.Given as goal

abbrev pub invariant-loop-i : goal.invariant-loop-i
invariant-loop-i l = l.to ≡ over (list_below (λ t. get_or l.from (get_or l.places t 0) 0) l.i) l.initial.to
