-- the words before place j are moved
use Rattle.std.proofs.Common.{◌≡◌, ◌%◌, get_or}
use Rattle.model.specs.Lists.{list_below, over}
use Rattle.model.specs.Setting.{dimensions_of}
use Rattle.stepping.specs.Moved.{moved_word}
use Rattle.stepping.proofs.move_all.Given as goal

abbrev pub invariant-loop-j : goal.invariant-loop-j
invariant-loop-j l = l.words ≡ over (list_below (λ k. moved_word (dimensions_of l.dims (k % l.n)) (get_or l.initial.words k 0)) l.j) l.initial.words
