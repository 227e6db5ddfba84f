use Rattle.std.proofs.Common.{replicate, arith}
use lib.Ieee.{of_bits}
use Rattle.hyperplane_laws.proofs.Worked.{extreme-inside, worked}
use Rattle.hyperplane.proofs.plane.Goals as goal

pub fill_matrix-requires : goal.fill_matrix-requires
fill_matrix-requires c =
    let a = c.args in (
      omega arith,
      omega arith,
      omega arith,
      omega arith,
      extreme-inside a.rows.now a.n a.m a.ideal.now c.find_extremes.new.extremes (replicate 8 0) c.requires.2 c.requires.0 c.find_extremes.ensures,
    )

-- what the parts leave is the plane of the definitions
pub returns : goal.returns
unfolding of_bits
returns c =
    let a = c.args in
    worked a.rows.now a.n a.m a.ideal.now c.find_extremes.new.extremes (replicate 8 0) _ _ _ _ _ _ c.find_extremes.ensures c.fill_matrix.ensures c.eliminate.ensures
    c.back_substitute.ensures c.invert.ensures c.falls_back.ensures
