-- the counts are those of the plans passed
use Rattle.niching_array_laws.specs.Niche.{line_in}
use Rattle.niching_array_laws.proofs.Counting.{Counted}
use Rattle.niching.proofs.count_lines.Given as goal

abbrev pub invariant-loop-p : goal.invariant-loop-p
invariant-loop-p l = Counted (line_in l.lines) l.plans l.p-index l.counts
