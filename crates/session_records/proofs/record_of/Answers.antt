use Rattle.std.proofs.Common.{sym, ◌∙◌, arith}
use Rattle.session_records.proofs.Records.{record_found, record_nowhere, others-more}
use Rattle.session_records.proofs.record_of.Goals as goal

pub loop-j-init : goal.loop-j-init
loop-j-init c = λ t a b. absurd (omega arith)

pub returns-then-history-k : goal.returns-then-history-k
returns-then-history-k c =
    let e = c.plan_count-n.ensures in
    sym (record_found c.args.history.now c.args.plan _ (omega arith) c.if-history-k.true (λ t x y. c.loop-j.invariant t (omega arith) (omega arith)))

pub loop-j-preserved : goal.loop-j-preserved
loop-j-preserved c = others-more c.args.history.now c.args.plan c.plan_count-n.result c.loop-j.j (omega arith) c.if-history-k.false c.loop-j.invariant

pub returns : goal.returns
returns c =
    let e = c.plan_count-n.ensures in
    e ∙ sym (record_nowhere c.args.history.now c.args.plan (λ t y. c.loop-j.invariant t (omega arith) (omega arith)))
