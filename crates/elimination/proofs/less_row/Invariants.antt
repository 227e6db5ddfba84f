-- the entries before j have lost their share
use Rattle.std.proofs.Common.{◌≡◌, ◌*◌}
use Rattle.std.proofs.lemmas.List.Edits.{sets}
use Rattle.model.specs.Lists.{list_below}
use Rattle.model.specs.Real.{◌⊖◌, ◌⊗◌, ◌⊘◌}
use Rattle.model.specs.Hyperplane.{entry}
use Rattle.elimination.proofs.less_row.Given as goal

abbrev pub invariant-loop-j : goal.invariant-loop-j
invariant-loop-j l = l.a ≡ sets l.fn.a (l.i * 9)
    (list_below (λ j. entry l.fn.a l.i j ⊖ ((entry l.fn.a l.i l.k ⊘ entry l.fn.a l.k l.k) ⊗ entry l.fn.a l.k j)) l.j)
