-- the rows before i are filled
use Rattle.std.proofs.Common.{◌≡◌, get_or}
use Rattle.model.specs.Hyperplane.{plane_rows}
use Rattle.hyperplane_laws.specs.Flat.{row_at, listed}
use Rattle.extremes.proofs.fill_matrix.Given as goal

abbrev pub invariant-loop-i : goal.invariant-loop-i
invariant-loop-i l = l.a ≡ plane_rows l.m (λ i. row_at l.rows l.m (get_or l.extremes i 0)) (listed l.ideal) l.fn.a l.i
