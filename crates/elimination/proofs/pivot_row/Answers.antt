use Rattle.std.proofs.Common.{◌≡◌, ap₂, sym, ◌∙◌, ℕ, ◌+◌, ◌-◌, Bool, arith}
use lib.Ieee.{lt}
use Rattle.model.specs.Hyperplane.{entry, magnitude, pivot_row}
use Rattle.list_laws.proofs.Best.{best_none}
use Rattle.hyperplane_laws.proofs.Search.{best_taken, best_left}
use Rattle.elimination.proofs.pivot_row.Goals as goal
use Rattle.elimination.proofs.pivot_row.Goals.{then-x-y, else-x-y}

pub loop-i-init : goal.loop-i-init
loop-i-init c =
    let none : c.args.k - c.args.k ≡ 0 = omega arith in
    record { below = c.requires.2; best = rw none (sym (best_none _ _ _)) }

pub loop-i-preserved : goal.loop-i-preserved
loop-i-preserved c =
    let l = c.loop-i in
    let a = c.args in
    let better : ℕ → ℕ → Bool = λ p q. lt (magnitude (entry a.a.now q a.k)) (magnitude (entry a.a.now p a.k)) in
    let e = ap₂ lt (sym c.magnitude_of-x.ensures) (sym c.magnitude_of-y.ensures) in
    let t : ℕ = l.i - a.k in
    let at : l.i ≡ a.k + t = omega arith in
    let more : l.i + 1 - a.k ≡ t + 1 = omega arith in
    elim c.if-x-y.branch [
      | then-x-y w ↦ record { below = omega (arith, w.best-is); best = rw more (best_taken better a.k (λ t. a.k + t) t l.invariant.best at (e ∙ w.if-x-y.true) w.best-is) }
      | else-x-y w ↦ record { below = omega (arith, w.best-is); best = rw more (best_left better a.k (λ t. a.k + t) t l.invariant.best at (e ∙ w.if-x-y.false) w.best-is) }
    ]

pub returns : goal.returns
unfolding pivot_row
returns c = let e : c.loop-i.i ≡ c.args.m = omega arith in rw e at c.loop-i.invariant.best
