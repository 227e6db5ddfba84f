-- the least of the lines passed
use Rattle.std.proofs.Common.{◌≡◌}
use Rattle.model.specs.Refusal.{max_pool}
use Rattle.niching_array_laws.specs.Niche.{least_below}
use Rattle.niching_lines.proofs.least_count.Given as goal

abbrev pub invariant-loop-l : goal.invariant-loop-l
invariant-loop-l l = l.least ≡ least_below max_pool l.counts l.waits l.l
