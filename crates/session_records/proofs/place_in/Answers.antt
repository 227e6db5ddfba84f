use Rattle.std.proofs.Common.{length, take, sym, ◌∙◌, arith, below_more}
use lib.Seq.{length-take-le, get_or-take}
use borrow.Author.Tests.{eq-eqb, ne_eqb}
use Rattle.list_laws.proofs.First.{first_below-at, first_below_nowhere}
use Rattle.session_records.proofs.place_in.Goals as goal

pub returns-then-plans-i : goal.returns-then-plans-i
returns-then-plans-i c =
    let a = c.args in
    let i = c.loop-i.i in
    let m = length-take-le a.n a.plans.now (omega arith) in
    sym (first_below-at _ (length (take a.n a.plans.now)) i (omega arith) (eq-eqb _ a.plan (get_or-take a.n a.plans.now i 0 (omega arith) ∙ c.if-plans-i.true)) c.loop-i.invariant)

pub loop-i-preserved : goal.loop-i-preserved
loop-i-preserved c =
    let a = c.args in
    below_more _ _ c.loop-i.invariant (ne_eqb _ a.plan (λ e. c.if-plans-i.false (sym (get_or-take a.n a.plans.now c.loop-i.i 0 (omega arith)) ∙ e)))

pub returns : goal.returns
returns c =
    let a = c.args in
    let m = length-take-le a.n a.plans.now (omega arith) in
    sym (first_below_nowhere _ (length (take a.n a.plans.now)) (λ t h. c.loop-i.invariant t (omega arith)) ∙ m)
