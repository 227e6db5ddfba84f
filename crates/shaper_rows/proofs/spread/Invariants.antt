-- lines and distances of the plans before p stand
use Rattle.std.proofs.Common.{◌≡◌, ◌≤◌}
use Rattle.model.specs.Lists.{list_below, over}
use Rattle.shaper_rows.specs.Gathered.{earlier, line_from, distance_from}
use Rattle.shaper_rows.proofs.spread.Given as goal

abbrev pub invariant-loop-p : goal.invariant-loop-p
invariant-loop-p l = record {
  count : l.i ≡ earlier l.marks l.p;
  few : l.i ≤ l.p;
  line : l.lines ≡ over (list_below (line_from l.marks l.from_lines) l.p) l.initial.lines;
  distance : l.distances ≡ over (list_below (distance_from l.marks l.from_distances) l.p) l.initial.distances;
}
