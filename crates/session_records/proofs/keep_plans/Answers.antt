use Rattle.std.proofs.Common.{length, get_or, sym, ap, ◌∙◌}
use Rattle.list_laws.proofs.Built.{join_below_none}
use Rattle.list_laws.proofs.Rows.{row_within}
use Rattle.model.specs.Lists.{over}
use Rattle.model.specs.Plan.{plan_words}
use Rattle.session_records.proofs.Records.{blocks_more}
use Rattle.session_records.proofs.keep_plans.Goals as goal

pub loop-i-init : goal.loop-i-init
loop-i-init c = sym (ap (λ x. over x c.args.to.now) (join_below_none _))

pub loop-i-preserved : goal.loop-i-preserved
loop-i-preserved c =
    let a = c.args in
    let l = c.loop-i in
    c.put_plan.ensures
    ∙ blocks_more (λ i. get_or a.kept.now i 0) a.bred.now a.to.now l.to l.i (row_within l.i a.n plan_words (length a.to.now) c.loop-i-test.true c.requires.1) l.invariant
