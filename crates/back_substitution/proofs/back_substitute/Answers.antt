use Rattle.std.proofs.Common.{◌≡◌, ap, sym, ◌∙◌, ℕ, ◌+◌, ◌-◌, arith}
use Rattle.std.proofs.Math.ListN.{set}
use Rattle.model.specs.Real.{◌⊘◌}
use Rattle.model.specs.Hyperplane.{entry, unknown, solved}
use Rattle.hyperplane_laws.proofs.Steps.{solved_none, solved-more}
use Rattle.back_substitution.proofs.back_substitute.Goals as goal

pub loop-i-init : goal.loop-i-init
loop-i-init c =
    let none : c.args.m - c.args.m ≡ 0 = omega arith in
    rw none (sym (solved_none _ _ _))

pub loop-i-preserved : goal.loop-i-preserved
unfolding unknown
loop-i-preserved c =
    let l = c.loop-i in
    let a = c.args in
    let t : ℕ = a.m - l.i in
    let i : ℕ = l.i - 1 in
    let at : i ≡ a.m - (t + 1) = omega arith in
    let more : a.m - (l.i - 1) ≡ t + 1 = omega arith in
    rw more (
    ap (λ v. set l.x i (v ⊘ entry a.a.now i i)) c.less_known.ensures
    ∙ ap (λ x. set x i (unknown a.m a.a.now x i)) l.invariant
    ∙ ap (λ i. let x = solved a.m a.a.now a.x.now t in set x i (unknown a.m a.a.now x i)) at
    ∙ sym (solved-more _ _ _ _)
    )
