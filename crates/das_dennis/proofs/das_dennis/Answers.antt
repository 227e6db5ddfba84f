-- The recursion's rows from nothing are the whole table, m entries a line.
use Rattle.std.proofs.Common.{ap, ◌∙◌, ℕ, ◌/◌, List, arith}
use native.Mathlib.Nat.{mul-div_cancel}
use lib.Ieee.{Float}
use Rattle.model.specs.Lists.{over}
use Rattle.model.specs.Reference.{point_count}
use Rattle.reference_laws.proofs.Rows.{whole-rows, whole_length}
use Rattle.das_dennis.proofs.das_dennis.Goals as goal

pub das_dennis_recursive-written-requires-clause-divisions_in_bounds :
    goal.das_dennis_recursive-written-requires-clause-divisions_in_bounds
das_dennis_recursive-written-requires-clause-divisions_in_bounds c =
    omega (arith, whole_length c.args.m c.args.h (omega arith))

pub returns-clause-lines : goal.returns-clause-lines
returns-clause-lines c =
    let a = c.args in
    ap (λ (n : ℕ). n / a.m) (c.das_dennis_recursive-written.ensures.count ∙ whole_length a.m a.h (omega arith)) ∙ mul-div_cancel (point_count a.m a.h) (omega arith)

pub returns-clause-rows : goal.returns-clause-rows
returns-clause-rows c =
    c.das_dennis_recursive-written.ensures.rows ∙ ap (λ (l : List Float). over l c.args.table.now) (whole-rows c.args.m c.args.h)
