-- how many of the lines passed have it
use Rattle.std.proofs.Common.{◌≡◌, ◌≤◌}
use Rattle.model.specs.Lists.{count_below}
use Rattle.niching_array_laws.specs.Niche.{is_least}
use Rattle.niching_lines.proofs.count_least.Given as goal

abbrev pub invariant-loop-l : goal.invariant-loop-l
invariant-loop-l l = record {
  few : l.count ≤ l.l;
  counted : l.count ≡ count_below (is_least l.counts l.waits l.least) l.l;
}
