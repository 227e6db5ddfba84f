-- every plan before the place is marked
use Rattle.std.proofs.Common.{◌≡◌, ◌+◌, true, get_or}
use Rattle.model.specs.Lists.{all_below}
use Rattle.shapers.specs.Marked.{marked}
use Rattle.shapers.proofs.all_marked.Given as goal

abbrev pub invariant-loop-p : goal.invariant-loop-p
invariant-loop-p l = all_below (λ t. marked l.marks (get_or l.order (l.whole + t) 0)) l.p-index ≡ true
