-- the sums are those of the first 4 * q squares, then of the first j
use Rattle.std.proofs.Common.{◌*◌}
use Rattle.association_laws.specs.Flat.{from}
use Rattle.columns.specs.Block.{OffSquares}
use Rattle.columns.proofs.off_squares.Given as goal

abbrev pub invariant-loop-q : goal.invariant-loop-q
invariant-loop-q l = OffSquares l.x (4 * l.q) l.len (from l.table l.line_at) l.t l.sums

abbrev pub invariant-loop-j : goal.invariant-loop-j
invariant-loop-j l = OffSquares l.x l.j l.len (from l.table l.line_at) l.t l.sums
