-- i numbers are read so far, up to p, and stored
use Rattle.pool_plans.specs.Blocks.{Words}
use Rattle.pool_plans.proofs.read_words.Given as goal

abbrev pub invariant-loop-i : goal.invariant-loop-i
invariant-loop-i l = Words (λ v. v) l.file l.at l.i l.keep l.base l.initial.pool l.pool l.p
