use Rattle.std.proofs.Common.{ℕ, ltb, length, sym, ap₂, ◌∙◌}
use borrow.Author.Tests.{lt-ltb, le-ltb, le-leb}
use Rattle.list_laws.proofs.Bools.{past}
use Rattle.list_laws.proofs.Tests.{all_below_none, all_below_yes, all_below_no}
use Rattle.model.specs.Session.{stands_in}
use Rattle.session_records.proofs.evaluated.Goals as goal

pub loop-i-init : goal.loop-i-init
loop-i-init c = all_below_none _

pub loop-i-preserved : goal.loop-i-preserved
loop-i-preserved c =
    let a = c.args in
    all_below_yes (stands_in a.history.now a.plans.now) c.loop-i.i c.loop-i.invariant
    (sym (ap₂ (λ (x y : ℕ). ltb x y) c.record_of.ensures c.plan_count-n.ensures) ∙ lt-ltb _ _ c.if-n-record_of.false)

pub returns-then-n-record_of : goal.returns-then-n-record_of
returns-then-n-record_of c =
    let a = c.args in
    sym (past (le-leb a.size a.n_plans c.if-n_plans-size.false)
    (past (le-leb a.size (length a.plans.now) c.if-plans-size.false)
    (all_below_no (stands_in a.history.now a.plans.now) a.size c.loop-i.i c.loop-i-test.true
    (sym (ap₂ (λ (x y : ℕ). ltb x y) c.record_of.ensures c.plan_count-n.ensures) ∙ le-ltb _ _ c.if-n-record_of.true))))
