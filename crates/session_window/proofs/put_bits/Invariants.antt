-- the first j words are stored
use Rattle.std.proofs.Common.{◌≡◌, get_or}
use Rattle.std.specs.Float.{nan}
use Rattle.std.proofs.lemmas.List.Edits.{sets}
use Rattle.model.specs.Lists.{list_below}
use Rattle.model.specs.Real.{bits}
use Rattle.session_window.proofs.put_bits.Given as goal

abbrev pub invariant-loop-j : goal.invariant-loop-j
invariant-loop-j l = l.to ≡ sets l.initial.to l.at (list_below (λ i. bits (get_or l.reals i nan)) l.j)
