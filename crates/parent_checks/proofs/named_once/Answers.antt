use Rattle.std.proofs.Common.{sym, ◌∙◌, arith, below_more}
use borrow.Author.Tests.{not-true, not-false}
use Rattle.extraction.specs.Entries.{setting_at}
use Rattle.parent_checks.proofs.Naming.{once_each, once_no}
use Rattle.parent_checks.proofs.named_once.Goals as goal

pub loop-j-init : goal.loop-j-init
loop-j-init c = λ k h. absurd (omega arith)

pub loop-j-preserved : goal.loop-j-preserved
loop-j-preserved c = below_more _ _ c.loop-j.invariant (not-false _ (sym c.repeated.ensures ∙ c.if-repeated.false))

pub returns-then-repeated : goal.returns-then-repeated
returns-then-repeated c =
    let a = c.args in
    sym (once_no (setting_at a.pool.now a.at) a.count c.loop-j.j (omega arith) (not-true _ (sym c.repeated.ensures ∙ c.if-repeated.true)))

pub returns : goal.returns
returns c =
    let a = c.args in
    sym (once_each (setting_at a.pool.now a.at) a.count (λ k h. c.loop-j.invariant k (omega arith)))
