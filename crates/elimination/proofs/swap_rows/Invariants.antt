-- the entries before `column` have changed places
use Rattle.std.proofs.Common.{◌≡◌, ◌*◌}
use Rattle.std.proofs.lemmas.List.Edits.{sets}
use Rattle.model.specs.Lists.{list_below}
use Rattle.model.specs.Hyperplane.{entry}
use Rattle.elimination.proofs.swap_rows.Given as goal

abbrev pub invariant-loop-column : goal.invariant-loop-column
invariant-loop-column l =
    l.a ≡ sets (sets l.fn.a (l.k * 9) (list_below (entry l.fn.a l.p) l.column)) (l.p * 9) (list_below (entry l.fn.a l.k) l.column)
