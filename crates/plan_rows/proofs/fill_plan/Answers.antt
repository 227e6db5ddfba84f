use Rattle.std.proofs.Common.{◌+◌, ◌*◌, ◌∙◌, sym, ap, arith, get_or, take}
use Rattle.std.proofs.Common.{set}
use lib.Seq.{length-take-le}
use Rattle.model.specs.Plan.{plan_of, plan_words}
use Rattle.model.specs.Row.{feasible, violation}
use Rattle.list_laws.proofs.Built.{list_below-length, over-take}
use Rattle.plans.proofs.Refused.{words-constraints}
use Rattle.plan_rows.proofs.fill_plan.Goals as goal

pub copy_reals-requires : goal.copy_reals-requires
unfolding plan_of
copy_reals-requires c = (omega arith, omega arith)

pub slice_bounds-reals-end : goal.slice_bounds-reals-end
unfolding plan_of
slice_bounds-reals-end c = omega arith

pub slice_bounds-constraints-end : goal.slice_bounds-constraints-end
unfolding plan_of
slice_bounds-constraints-end c = sym (length-take-le _ _ (omega arith))

pub returns : goal.returns
unfolding plan_of
returns c =
    let a = c.args in
    let count = get_or a.pool.now (a.p * plan_words + 10) 0 in
    let told = ap (take count) c.copy_reals.ensures ∙ over-take _ _ count (list_below-length _ count) ∙ sym (words-constraints a.pool.now (a.p * plan_words) c.requires.1) in
    record {
      feasibility = ap (set a.feasible.now a.p) (c.is_feasible.ensures ∙ ap feasible told);
      violations = ap (set a.violations.now a.p) (c.total_violation.ensures ∙ ap violation told);
    }
