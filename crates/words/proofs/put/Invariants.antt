-- the first j words are stored
use Rattle.std.proofs.Common.{◌≡◌, get_or}
use lib.Seq.{sets}
use Rattle.model.specs.Lists.{list_below}
use Rattle.words.proofs.put.Given as goal

abbrev pub invariant-loop-j : goal.invariant-loop-j
invariant-loop-j l = l.words ≡ sets l.initial.words l.at (list_below (λ i. get_or l.block i 0) l.j)
