-- each turn leaves less of the text
use Rattle.std.proofs.Common.{length}
use Rattle.replay_program.proofs.replayed.Given as goal

abbrev pub decreases-loop-rest : goal.decreases-loop-rest
decreases-loop-rest l = length l.rest
