use Rattle.std.proofs.Common.{◌≡◌, sym, ap, ◌∙◌, arith}
use borrow.Author.Tests.{eq-eqb, ne_eqb}
use Rattle.list_laws.proofs.Tests.{any_below_none, any_below_no, any_below-at}
use Rattle.model.specs.Lists.{any_below}
use Rattle.session_records.proofs.Records.{is_record, waits-by}
use Rattle.session_records.proofs.waits.Goals as goal

pub loop-i-init : goal.loop-i-init
loop-i-init c = any_below_none _

pub loop-i-preserved : goal.loop-i-preserved
loop-i-preserved c = any_below_no (is_record c.args.pool.now c.args.plan) c.loop-i.i c.loop-i.invariant (ne_eqb _ c.args.plan c.if-pool-i.false)

pub returns-then-pool-i : goal.returns-then-pool-i
returns-then-pool-i c =
    let a = c.args in
    sym (waits-by a.pool.now a.plan a.n ∙ any_below-at (is_record a.pool.now a.plan) a.n c.loop-i.i c.loop-i-test.true (eq-eqb _ a.plan c.if-pool-i.true))

pub returns : goal.returns
returns c =
    let a = c.args in
    let e : c.loop-i.i ≡ a.n = omega arith in
    sym (waits-by a.pool.now a.plan a.n ∙ ap (any_below (is_record a.pool.now a.plan)) (sym e) ∙ c.loop-i.invariant)
