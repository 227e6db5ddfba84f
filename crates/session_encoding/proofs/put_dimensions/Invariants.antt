-- the dimensions before place d are stored
use Rattle.std.proofs.Common.{◌≡◌}
use Rattle.std.proofs.lemmas.List.Edits.{sets}
use Rattle.model.specs.Lists.{join_below}
use Rattle.model.specs.Setting.{dimensions_of}
use Rattle.session_words.specs.Coding.{dimension_words}
use Rattle.session_encoding.proofs.put_dimensions.Given as goal

abbrev pub invariant-loop-d : goal.invariant-loop-d
invariant-loop-d l = l.words ≡ sets l.initial.words l.from (join_below (λ i. dimension_words (dimensions_of l.dims i)) l.d)
