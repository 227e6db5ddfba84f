-- the rows of the plans before plan p stand at the front
use Rattle.model.specs.Plan.{plan_at}
use Rattle.plan_rows.specs.Filled.{RowsFilled}
use Rattle.plan_rows.proofs.fill_rows.Given as goal

abbrev pub invariant-loop-p : goal.invariant-loop-p
invariant-loop-p l = RowsFilled l.directions (plan_at l.pool) l.p l.initial.rows l.rows
