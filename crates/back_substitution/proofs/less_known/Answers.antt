use Rattle.std.proofs.Common.{◌≡◌, ap₂, sym, ◌∙◌, ℕ, ◌+◌, ◌-◌, get_or, arith}
use lib.Ieee.{nan}
use Rattle.model.specs.Real.{◌⊖◌, ◌⊗◌}
use Rattle.model.specs.Hyperplane.{entry}
use Rattle.hyperplane_laws.proofs.Steps.{less_known_none, less_known-more}
use Rattle.back_substitution.proofs.less_known.Goals as goal

pub loop-j-init : goal.loop-j-init
loop-j-init c =
    let none : c.args.i + 1 - (c.args.i + 1) ≡ 0 = omega arith in
    rw none (sym (less_known_none _ _ _ _))

pub loop-j-preserved : goal.loop-j-preserved
loop-j-preserved c =
    let l = c.loop-j in
    let a = c.args in
    let t : ℕ = l.j - (a.i + 1) in
    let at : l.j ≡ a.i + 1 + t = omega arith in
    let more : l.j + 1 - (a.i + 1) ≡ t + 1 = omega arith in
    rw more (ap₂ (λ s j. s ⊖ (entry a.a.now a.i j ⊗ get_or a.x.now j nan)) l.invariant at ∙ sym (less_known-more _ _ _ _ _))

pub returns : goal.returns
returns c = let e : c.loop-j.j ≡ c.args.m = omega arith in rw e at c.loop-j.invariant
