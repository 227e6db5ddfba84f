use Rattle.std.proofs.Common.{◌≡◌, ap, sym, arith}
use lib.Ieee.{div, neg, of_bits}
use Rattle.model.specs.Real.{◌⊖◌, ◌⊘◌, above}
use Rattle.model.specs.Hyperplane.{asf}
use Rattle.list_laws.proofs.Best.{best_none}
use Rattle.hyperplane_laws.specs.Flat.{row_at, listed}
use Rattle.hyperplane_laws.proofs.Search.{best_taken, best_left}
use Rattle.extremes.proofs.achievement.Goals as goal
use Rattle.extremes.proofs.achievement.Goals.{then-best-v, else-best-v}

pub loop-j-init : goal.loop-j-init
unfolding div of_bits neg
loop-j-init c = sym (best_none above _ _)

pub loop-j-preserved : goal.loop-j-preserved
loop-j-preserved c =
    let l = c.loop-j in
    let a = c.args in
    let e = ap (λ t. (row_at a.rows.now a.m a.p l.j ⊖ listed a.ideal.now l.j) ⊘ t) c.weight_of.ensures in
    elim c.if-best-v.branch [
      | then-best-v w ↦ best_taken above _ _ _ l.invariant e w.if-best-v.true w.best-is
      | else-best-v w ↦ best_left above _ _ _ l.invariant e w.if-best-v.false w.best-is
    ]

pub returns : goal.returns
unfolding asf
returns c = let e : c.loop-j.j ≡ c.args.m = omega arith in rw e at c.loop-j.invariant
