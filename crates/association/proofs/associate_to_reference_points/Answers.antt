use Rattle.std.proofs.Common.{arith}
use lib.Ieee.{nan}
use Rattle.list_laws.proofs.Built.{over_below}
use Rattle.association.proofs.associate_to_reference_points.Goals as goal

-- the norms that are worked out are those of the lines that the table holds
pub nearest_lines-requires : goal.nearest_lines-requires
nearest_lines-requires c = (
  omega arith,
  omega arith,
  omega arith,
  λ l h. over_below _ _ _ _ l nan c.line_norms.ensures h,
  omega arith,
  omega arith,
)
