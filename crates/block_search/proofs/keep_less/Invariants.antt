-- the plans before b have the lesser square
use Rattle.block_search.specs.Turn.{KeptLess}
use Rattle.block_search.proofs.keep_less.Given as goal

abbrev pub invariant-loop-b : goal.invariant-loop-b
invariant-loop-b l = KeptLess l.line l.squares l.b l.initial.lines l.lines l.initial.best l.best
