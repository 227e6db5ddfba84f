-- the rows before p are normalised
use Rattle.std.proofs.Common.{◌≡◌}
use Rattle.model.specs.Lists.{over}
use Rattle.list_laws.specs.Rows.{flat_rows}
use Rattle.association_laws.specs.Flat.{normal_at}
use Rattle.normalization.proofs.normalize_objectives.Given as goal

abbrev pub invariant-loop-p : goal.invariant-loop-p
invariant-loop-p l = l.normalized ≡ over (flat_rows (normal_at l.rows l.m l.ideal l.intercepts) l.p l.m) l.fn.normalized
