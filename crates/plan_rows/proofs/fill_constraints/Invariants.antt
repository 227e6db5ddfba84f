-- feasibility and violation sums of the plans before plan p stand at the front
use Rattle.model.specs.Plan.{plan_at}
use Rattle.plan_rows.specs.Filled.{ConstraintsOf}
use Rattle.plan_rows.proofs.fill_constraints.Given as goal

abbrev pub invariant-loop-p : goal.invariant-loop-p
invariant-loop-p l = ConstraintsOf (plan_at l.pool) l.p l.initial.feasible l.feasible l.initial.violations l.violations
