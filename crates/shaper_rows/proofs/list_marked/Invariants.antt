-- the places of the marked plans before p are listed
use Rattle.std.proofs.Common.{◌≡◌, ◌≤◌}
use Rattle.model.specs.Lists.{over}
use Rattle.shaper_rows.specs.Gathered.{places_of, earlier}
use Rattle.shaper_rows.proofs.list_marked.Given as goal

abbrev pub invariant-loop-p : goal.invariant-loop-p
invariant-loop-p l = record {
  count : l.k ≡ earlier l.marks l.p;
  listed : l.places ≡ over (places_of l.marks l.p) l.initial.places;
  few : l.k ≤ l.p;
}
