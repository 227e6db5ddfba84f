use Rattle.std.proofs.Common.{◌≡◌, ◌<◌, subst, length, arith}
use Rattle.dominator_counts.specs.Compared.{Decides}
use Rattle.dominator_counts.specs.declared.Winner.{Winner}
use Rattle.domination.specs.Pools.{beats}
use Rattle.front_laws.proofs.Counting.{raising_first, raising_dominated, raising_dominates, raising_neither, raising_small}
use Rattle.dominator_counts.proofs.count_earlier.Goals as goal
use Rattle.dominator_counts.proofs.count_earlier.Goals.{in-First, in-Second, in-Neither}

pub loop-p-init : goal.loop-p-init
loop-p-init c = raising_first _ _ _

pub overflow_add-c : goal.overflow_add-c
overflow_add-c c = omega (arith, raising_small _ _ _ _ _ _ c.loop-p.invariant c.args.n c.requires.1 c.loop-p-test.true)

pub overflow_add-counts : goal.overflow_add-counts
overflow_add-counts c = omega (arith, raising_small _ _ _ _ _ _ c.loop-p.invariant c.args.n c.requires.1 c.loop-p-test.true)

pub loop-p-preserved : goal.loop-p-preserved
loop-p-preserved c =
    let l = c.loop-p in
    let a = c.args in
    let g = beats a.pool in
    let told : (v : Winner) → c.compare.result ≡ v → Decides v (g l.p a.q) (g a.q l.p) =
    λ v e. subst (λ (v : Winner). Decides v (g l.p a.q) (g a.q l.p)) e c.compare.ensures in
    let r : l.p < length a.counts.now = omega arith in
    elim c.match-compare.branch [
      | in-First w ↦ let f = told _ w.in-First.is in rw (w.c-is, w.counts-is) (raising_dominated _ _ _ _ _ _ l.invariant r f.0 f.1)
      | in-Second w ↦ let f = told _ w.in-Second.is in rw (w.c-is, w.counts-is) (raising_dominates _ _ _ _ _ _ l.invariant r f.0 f.1)
      | in-Neither w ↦ let f = told _ w.in-Neither.is in rw (w.c-is, w.counts-is) (raising_neither _ _ _ _ _ _ l.invariant r f.0 f.1)
    ]
