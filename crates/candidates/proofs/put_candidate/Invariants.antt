-- the first j words are stored
use Rattle.std.proofs.Common.{◌≡◌}
use lib.Seq.{sets}
use Rattle.model.specs.Lists.{list_below}
use Rattle.model.specs.Setting.{to_word}
use Rattle.settings.specs.Candidate.{slot_of}
use Rattle.candidates.proofs.put_candidate.Given as goal

abbrev pub invariant-loop-j : goal.invariant-loop-j
invariant-loop-j l = l.out ≡ sets l.initial.out l.at (list_below (λ i. to_word (slot_of l.params i)) l.j)
