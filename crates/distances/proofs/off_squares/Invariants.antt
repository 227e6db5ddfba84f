-- the sum is that of the first j squares
use Rattle.std.proofs.Common.{◌≡◌}
use Rattle.model.specs.Association.{off_squares}
use Rattle.association_laws.specs.Flat.{from}
use Rattle.distances.proofs.off_squares.Given as goal

abbrev pub invariant-loop-j : goal.invariant-loop-j
invariant-loop-j l = l.sum ≡ off_squares l.j (from l.points l.at) (from l.table l.line_at) l.t
