-- the first j values stand from the row's place on
use Rattle.std.proofs.Common.{◌≡◌, ◌*◌, length}
use Rattle.std.proofs.lemmas.List.Edits.{sets}
use Rattle.model.specs.Lists.{list_below}
use Rattle.model.specs.Plan.{plan_at}
use Rattle.model.specs.Row.{row_of}
use Rattle.plan_rows.proofs.fill_row.Given as goal

abbrev pub invariant-loop-j : goal.invariant-loop-j
invariant-loop-j l = l.rows ≡ sets l.initial.rows (l.p * length l.directions) (list_below (row_of l.directions (plan_at l.pool l.p)) l.j)
