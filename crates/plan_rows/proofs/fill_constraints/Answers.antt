use Rattle.std.proofs.Common.{refl, sym, ◌∙◌, arith}
use Rattle.list_laws.proofs.Built.{over_none, over-set}
use Rattle.plan_rows.proofs.fill_constraints.Goals as goal

pub loop-p-init : goal.loop-p-init
loop-p-init c = record { feasibility = sym (over_none _ _); violations = sym (over_none _ _) }

pub fill_plan-requires : goal.fill_plan-requires
fill_plan-requires c = (omega arith, c.requires.by_index c.loop-p.p c.loop-p-test.true, omega arith, omega arith)

pub loop-p-preserved : goal.loop-p-preserved
loop-p-preserved c =
    let l = c.loop-p in
    let f = c.fill_plan.ensures in record {
      feasibility = f.feasibility ∙ over-set _ _ _ l.p _ (omega arith) l.invariant.feasibility refl;
      violations = f.violations ∙ over-set _ _ _ l.p _ (omega arith) l.invariant.violations refl;
    }
