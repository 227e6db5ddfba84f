-- The measure is how many coordinates are left. After i branches the table has their rows at its front, and `at` is where they end.
use Rattle.std.proofs.Common.{◌≡◌, ◌+◌, ◌≤◌, length, take}
use Rattle.model.specs.Lists.{join_below, over}
use Rattle.reference_laws.proofs.Rows.{part}
use Rattle.das_dennis.proofs.+das_dennis_recursive.Given as goal

abbrev pub decreases-das_dennis_recursive : goal.decreases-das_dennis_recursive
decreases-das_dennis_recursive l = l.left

abbrev pub invariant-loop-i : goal.invariant-loop-i
invariant-loop-i l =
    record {
      most : l.i ≤ l.n;
      count : l.n ≡ l.remaining + 1;
      same : length l.table ≡ length l.initial.table;
      place : l.at ≡ length (join_below (part (take l.depth l.current) l.left l.remaining l.divisions) l.i);
      body : l.table ≡ over (join_below (part (take l.depth l.current) l.left l.remaining l.divisions) l.i) l.initial.table;
    }
