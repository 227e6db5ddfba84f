use Rattle.std.proofs.Common.{arith}
use borrow.Author.Tests.{eq-eqb, ne_eqb}
use Rattle.list_laws.proofs.Stores.{picked_none, picked_yes, picked_no}
use Rattle.pareto.proofs.first_front.Goals as goal
use Rattle.pareto.proofs.first_front.Goals.{then-counts-q-eq0, else-counts-q-eq0}

pub loop-q-init : goal.loop-q-init
loop-q-init c = record { few = omega arith; picked = picked_none _ _ _ }

pub loop-q-preserved : goal.loop-q-preserved
loop-q-preserved c =
    let l = c.loop-q in
    elim c.if-counts-q-eq0.branch [
      | then-counts-q-eq0 w ↦
          rw (w.order-is, w.len-is) (record { few = omega arith; picked = picked_yes _ _ 0 _ _ _ (eq-eqb _ 0 w.if-counts-q-eq0.true) l.invariant.picked })
      | else-counts-q-eq0 w ↦
          rw (w.order-is, w.len-is) (record { few = omega arith; picked = picked_no _ _ 0 _ _ _ (ne_eqb _ 0 w.if-counts-q-eq0.false) l.invariant.picked })
    ]
