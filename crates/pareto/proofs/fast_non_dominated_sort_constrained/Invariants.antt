use Prim.Native.Nat.{◌-◌}
use mathlib.Core.Path.{◌≡◌}
use lib.ListN.{length}
use Rattle.front_laws.specs.Flat.{flat_beats}
use Rattle.front_laws.proofs.Sorting.{Sorting}
use Rattle.pareto.proofs.fast_non_dominated_sort_constrained.Given as goal

abbrev pub invariant-loop-start : goal.invariant-loop-start
invariant-loop-start l =
    (length l.counts ≡ length l.initial.counts) × Sorting (flat_beats l.rows l.m l.feasible l.violations) l.n l.initial.order l.initial.rank l.initial.ends l.k l.start l.end l.counts l.order l.rank l.ends

abbrev pub decreases-loop-start : goal.decreases-loop-start
decreases-loop-start l =
    l.n - l.start
