-- the plans before b have their line and distance
use Rattle.block_lines.specs.Blocks.{Handed}
use Rattle.block_lines.proofs.hand_out.Given as goal

abbrev pub invariant-loop-b : goal.invariant-loop-b
invariant-loop-b l = Handed l.fn.edition l.near l.best l.start l.b l.initial.lines l.lines l.initial.distances l.distances
