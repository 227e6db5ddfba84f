-- the entries before j are normalised
use Rattle.std.proofs.Common.{◌≡◌, ◌*◌}
use Rattle.std.proofs.lemmas.List.Edits.{sets}
use Rattle.model.specs.Lists.{list_below}
use Rattle.association_laws.specs.Flat.{normal_at}
use Rattle.normalization.proofs.normalize_row.Given as goal

abbrev pub invariant-loop-j : goal.invariant-loop-j
invariant-loop-j l = l.normalized ≡ sets l.fn.normalized (l.p * l.m) (list_below (normal_at l.rows l.m l.ideal l.intercepts l.p) l.j)
