-- the lines before l have their norm
use Rattle.std.proofs.Common.{◌≡◌}
use Rattle.model.specs.Lists.{list_below, over}
use Rattle.association_laws.specs.Flat.{norm_at}
use Rattle.distances.proofs.line_norms.Given as goal

abbrev pub invariant-loop-l : goal.invariant-loop-l
invariant-loop-l l = l.norms ≡ over (list_below (norm_at l.table l.m) l.l) l.fn.norms
