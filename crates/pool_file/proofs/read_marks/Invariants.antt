-- i marks are read so far, up to p, and stored
use Rattle.pool_plans.specs.Blocks.{Words}
use Rattle.pool_file.specs.Parsing.{capped}
use Rattle.pool_file.proofs.read_marks.Given as goal

abbrev pub invariant-loop-i : goal.invariant-loop-i
invariant-loop-i l = Words capped l.file l.at l.i 8 0 l.initial.directions l.directions l.p
