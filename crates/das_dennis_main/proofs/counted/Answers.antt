-- `counted`: where refusal 4 does not apply, the table has room.
use Rattle.std.proofs.Common.{arith}
use Rattle.reference_laws.proofs.Divisions.{fits}
use Rattle.das_dennis_main.proofs.counted.Goals as goal

pub das_dennis-lines-requires-clause-le_m : goal.das_dennis-lines-requires-clause-le_m
das_dennis-lines-requires-clause-le_m g c =
    let w = fits c.args.m c.args.h (omega arith) c.bad_divisions.ensures c.if-bad_divisions.false in
    (omega arith, omega arith, w.0, w.1)

pub das_dennis-lines-requires-clause-m_in_bounds :
    goal.das_dennis-lines-requires-clause-m_in_bounds
das_dennis-lines-requires-clause-m_in_bounds g c =
    let w = fits c.args.m c.args.h (omega arith) c.bad_divisions.ensures c.if-bad_divisions.false in w.2

pub point_count-count-requires : goal.point_count-count-requires
point_count-count-requires g c =
    let w = fits c.args.m c.args.h (omega arith) c.bad_divisions.ensures c.if-bad_divisions.false in
    (omega arith, omega arith, w.1)
