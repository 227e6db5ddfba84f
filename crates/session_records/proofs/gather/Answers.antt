use Rattle.std.proofs.Common.{length, sym, ap, ◌∙◌, length-append, arith}
use borrow.Author.Tests.{ltb-true}
use Rattle.list_laws.proofs.Built.{join_below_none, join_below-more}
use Rattle.list_laws.proofs.Tests.{all_below-each}
use Rattle.model.specs.Lists.{over}
use Rattle.model.specs.Session.{numbers_of, stands_in, child_of, children_of}
use Rattle.session_records.proofs.Records.{child_room, children-more}
use Rattle.session_records.proofs.gather.Goals as goal

pub loop-i-init : goal.loop-i-init
loop-i-init c =
    let a = c.args in
    let none = join_below_none (child_of (numbers_of a.pool.now a.n_waiting) a.history.now a.plans.now) in
    record { laid = sym (ap (λ x. over x a.to.now) none); behind = sym (ap length none) }

pub put_child-at-requires : goal.put_child-at-requires
put_child-at-requires c =
    let a = c.args in
    let l = c.loop-i in
    let h = c.loop-i-test.true in
    let room = child_room (numbers_of a.pool.now a.n_waiting) a.history.now a.plans.now l.i a.size (length a.to.now) h c.requires.3 in
    (c.requires.2, ltb-true _ _ (all_below-each (stands_in a.history.now a.plans.now) a.size c.requires.1 l.i h), omega (arith, room))

pub loop-i-preserved : goal.loop-i-preserved
loop-i-preserved c =
    let a = c.args in
    let l = c.loop-i in
    let p = c.put_child-at.ensures in
    let w = numbers_of a.pool.now a.n_waiting in
    let child = child_of w a.history.now a.plans.now in
    let room = child_room w a.history.now a.plans.now l.i a.size (length a.to.now) c.loop-i-test.true c.requires.3 in
    record {
      laid = p.put ∙ children-more w a.history.now a.plans.now a.to.now l.to l.i l.at room l.invariant.laid l.invariant.behind;
      behind = omega (arith, p.behind, ap length (join_below-more child l.i), length-append (children_of w a.history.now a.plans.now l.i) (child l.i));
    }
