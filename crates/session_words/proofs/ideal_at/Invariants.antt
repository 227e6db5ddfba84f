-- the values before place i are read
use Rattle.std.proofs.Common.{◌≡◌, ◌+◌, get_or}
use Rattle.model.specs.Lists.{list_below, over}
use Rattle.model.specs.Real.{real}
use Rattle.session_words.specs.Place as place
use Rattle.session_words.proofs.ideal_at.Given as goal

abbrev pub invariant-loop-i : goal.invariant-loop-i
invariant-loop-i l = l.ideal ≡ over (list_below (λ i. real (get_or l.words (place.ideal + i) 0)) l.i) l.initial.ideal
