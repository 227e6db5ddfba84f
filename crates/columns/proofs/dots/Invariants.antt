-- the sums are those of the first 4 * q products, then of the first j
use Rattle.std.proofs.Common.{◌*◌}
use Rattle.association_laws.specs.Flat.{from}
use Rattle.columns.specs.Block.{Dots}
use Rattle.columns.proofs.dots.Given as goal

abbrev pub invariant-loop-q : goal.invariant-loop-q
invariant-loop-q l = Dots l.x (4 * l.q) l.len (from l.table l.line_at) l.sums

abbrev pub invariant-loop-j : goal.invariant-loop-j
invariant-loop-j l = Dots l.x l.j l.len (from l.table l.line_at) l.sums
