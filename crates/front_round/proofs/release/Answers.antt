use Rattle.std.proofs.Common.{◌<◌, sym, ◌∙◌, arith, length}
use Rattle.front_laws.proofs.Steps.{releasing_first, count_still, releasing_asks, releasing_yes, releasing_no}
use Rattle.front_laws.proofs.Flat.{pool-pair}
use Rattle.front_round.proofs.release.Goals as goal
use Rattle.front_round.proofs.release.Goals.{then-dominates_counted, else-dominates_counted}

pub loop-q-init : goal.loop-q-init
loop-q-init c = releasing_first _ _ _ _ _

pub dominates_counted-requires : goal.dominates_counted-requires
dominates_counted-requires c =
    let a = c.args in
    let q = c.loop-q.q in
    let u = c.loop-q-test.true in (
      pool-pair _ _ _ _ a.n a.p q c.requires.0 c.requires.1.plan u,
      omega (arith, c.requires.1.fair q u, count_still _ _ _ _ _ _ _ _ _ c.loop-q.invariant),
    )

pub lower-len-requires : goal.lower-len-requires
lower-len-requires c =
    let l = c.loop-q in
    let u = c.loop-q-test.true in
    let e = sym c.dominates_counted.ensures ∙ c.if-dominates_counted.true in
    releasing_asks _ _ _ _ _ _ _ _ _ l.invariant c.args.n u c.requires.1.counted (c.requires.1.fair l.q u) c.requires.1.room e

pub loop-q-preserved : goal.loop-q-preserved
loop-q-preserved c =
    let l = c.loop-q in
    let d = sym c.dominates_counted.ensures in
    let room : l.q < length c.args.counts.now = omega arith in
    elim c.if-dominates_counted.branch [
      | then-dominates_counted w ↦
          rw (w.counts-is, w.order-is, w.len-is) (releasing_yes _ _ _ _ _ _ _ _ _ l.invariant _ _ _ room (d ∙ w.if-dominates_counted.true) w.lower-len.ensures)
      | else-dominates_counted w ↦
          rw (w.counts-is, w.order-is, w.len-is) (releasing_no _ _ _ _ _ _ _ _ _ l.invariant room (d ∙ w.if-dominates_counted.false))
    ]
