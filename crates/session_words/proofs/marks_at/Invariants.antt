-- the marks before place i are read
use Rattle.std.proofs.Common.{◌≡◌, ◌+◌, ◌%◌, get_or}
use Rattle.model.specs.Lists.{list_below, over}
use Rattle.session_words.specs.Place as place
use Rattle.session_words.proofs.marks_at.Given as goal

abbrev pub invariant-loop-i : goal.invariant-loop-i
invariant-loop-i l = l.marks ≡ over (list_below (λ i. get_or l.words (place.directions + i) 0 % 256) l.i) l.initial.marks
