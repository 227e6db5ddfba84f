use Rattle.std.proofs.Common.{◌≡◌, ap, sym, ◌∙◌, ℕ, ◌+◌, ◌-◌, arith}
use Rattle.model.specs.Hyperplane.{less_row, cleared}
use Rattle.hyperplane_laws.proofs.Steps.{cleared_none, cleared_more}
use Rattle.elimination.proofs.clear_column.Goals as goal

pub loop-i-init : goal.loop-i-init
loop-i-init c =
    let none : c.args.k + 1 - (c.args.k + 1) ≡ 0 = omega arith in
    rw none (sym (cleared_none _ _ _))

pub loop-i-preserved : goal.loop-i-preserved
loop-i-preserved c =
    let l = c.loop-i in
    let a = c.args in
    let t : ℕ = l.i - (a.k + 1) in
    let at : l.i ≡ a.k + 1 + t = omega arith in
    let more : l.i + 1 - (a.k + 1) ≡ t + 1 = omega arith in
    rw more (c.less_row.ensures ∙ ap (λ t. less_row a.m t a.k l.i) l.invariant ∙ ap (less_row a.m (cleared a.m a.a.now a.k t) a.k) at ∙ sym (cleared_more _ _ _ _))

pub returns : goal.returns
returns c = let e : c.loop-i.i ≡ c.args.m = omega arith in rw e at c.loop-i.invariant
