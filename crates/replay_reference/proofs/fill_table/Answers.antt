-- divisions that are not refused make a table that has room
use Rattle.std.proofs.Common.{◌≡◌, ◌*◌, ◌≤◌, false, arith}
use Rattle.reference_laws.proofs.Divisions.{fits}
use Rattle.replay_reference.proofs.fill_table.Goals as goal

pub das_dennis-requires-clause-le_m : goal.das_dennis-requires-clause-le_m
das_dennis-requires-clause-le_m c =
    let w = fits c.args.m c.args.h (omega arith) c.bad_divisions.ensures c.if-bad_divisions.false in
    (omega arith, omega arith, w.0, w.1)

pub das_dennis-requires-clause-m_in_bounds : goal.das_dennis-requires-clause-m_in_bounds
das_dennis-requires-clause-m_in_bounds c =
    let w = fits c.args.m c.args.h (omega arith) c.bad_divisions.ensures c.if-bad_divisions.false in
    omega (arith, w.2)

pub returns : goal.returns
returns c = rw c.das_dennis.ensures.lines (fits c.args.m c.args.h (omega arith) c.bad_divisions.ensures c.if-bad_divisions.false).2
