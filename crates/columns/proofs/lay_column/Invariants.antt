-- the plans before b stand in the column
use Rattle.std.proofs.Common.{◌≡◌, ◌*◌}
use lib.Seq.{sets}
use Rattle.model.specs.Lists.{list_below}
use Rattle.columns.specs.Block.{laid}
use Rattle.columns.proofs.lay_column.Given as goal

abbrev pub invariant-loop-b : goal.invariant-loop-b
invariant-loop-b l = l.x ≡ sets l.initial.x (l.j * l.len) (list_below (laid l.points l.m l.start l.j) l.b)
