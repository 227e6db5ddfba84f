-- the dimensions before place d are read
use Rattle.std.proofs.Common.{◌≡◌}
use Rattle.model.specs.Lists.{list_below, over}
use Rattle.session_words.specs.Coding.{info_at}
use Rattle.session_words.proofs.dimensions_of_words.Given as goal

abbrev pub invariant-loop-d : goal.invariant-loop-d
invariant-loop-d l = l.dims ≡ over (list_below (info_at l.words l.from) l.d) l.initial.dims
