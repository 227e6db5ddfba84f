-- each plan has its line of those before l
use Rattle.block_search.specs.Turn.{block_distance, FoundAll}
use Rattle.block_search.proofs.search.Given as goal

abbrev pub invariant-loop-l : goal.invariant-loop-l
invariant-loop-l l = FoundAll l.edition (block_distance l.edition l.x l.m l.len l.table) l.l l.len l.lines l.best
