-- the plans before place `start` have their line and distance
use Rattle.std.proofs.Common.{◌≤◌}
use Rattle.association_laws.specs.Flat.{NearestAll}
use Rattle.block_lines.proofs.nearest_by_blocks.Given as goal

abbrev pub invariant-loop-start : goal.invariant-loop-start
invariant-loop-start l = record {
  inside : l.start ≤ l.n;
  nearest : NearestAll l.edition l.points l.m l.table l.n_lines l.start l.initial.lines l.lines l.initial.distances l.distances;
}
