-- every dimension before place i fits
use Rattle.std.proofs.Common.{◌≡◌, true}
use Rattle.model.specs.Lists.{all_below}
use Rattle.model.specs.Setting.{dimensions_of}
use Rattle.model.specs.Refusal.{fits_at}
use Rattle.extraction.specs.Entries.{entries_of}
use Rattle.parent_checks.proofs.all_fit.Given as goal

abbrev pub invariant-loop-i : goal.invariant-loop-i
invariant-loop-i l = all_below (fits_at (dimensions_of l.dims) (entries_of l.sorted l.count)) l.i ≡ true
