-- the entries before j are filled
use Rattle.std.proofs.Common.{◌≡◌, ◌*◌}
use Rattle.std.proofs.lemmas.List.Edits.{sets}
use Rattle.model.specs.Lists.{list_below}
use Rattle.hyperplane_laws.specs.Flat.{plane_row_at}
use Rattle.extremes.proofs.fill_row.Given as goal

abbrev pub invariant-loop-j : goal.invariant-loop-j
invariant-loop-j l = l.a ≡ sets l.fn.a (l.i * 9) (list_below (plane_row_at l.rows l.m l.ideal l.p) l.j)
