use Rattle.std.proofs.Common.{sym, ap, ◌∙◌, arith}
use Rattle.std.proofs.lemmas.List.Edits.{get_or-between}
use Rattle.list_laws.proofs.Tests.{all_below_none, all_below_yes, all_below_no}
use Rattle.shapers.specs.Marked.{marked}
use Rattle.shapers.proofs.all_marked.Goals as goal

pub loop-p-init : goal.loop-p-init
loop-p-init c = all_below_none _

pub loop-p-preserved : goal.loop-p-preserved
loop-p-preserved c =
    let a = c.args in
    let here = get_or-between a.order.now a.whole a.end c.loop-p.p-index 0 (omega arith) in
    all_below_yes _ _ c.loop-p.invariant (ap (marked a.marks.now) (sym here) ∙ c.if-not-marks-p.false)

pub returns-then-not-marks-p : goal.returns-then-not-marks-p
returns-then-not-marks-p c =
    let a = c.args in
    let here = get_or-between a.order.now a.whole a.end c.loop-p.p-index 0 (omega arith) in
    sym (all_below_no _ _ c.loop-p.p-index (omega arith) (ap (marked a.marks.now) (sym here) ∙ c.if-not-marks-p.true))
