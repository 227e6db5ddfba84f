use Rattle.std.proofs.Common.{◌≡◌, ℕ, not, sym, ap, ◌∙◌, arith}
use Rattle.model.specs.Lists.{all_below}
use Rattle.model.specs.Plan.{plan_at, plan_count}
use Rattle.model.specs.Setting.{dimensions_of}
use Rattle.model.specs.Refusal.{breedable}
use Rattle.list_laws.proofs.Tests.{all_below_no}
use Rattle.parent_checks.proofs.bad_parents.Goals as goal

pub returns-then-not-breedable : goal.returns-then-not-breedable
returns-then-not-breedable c =
    let a = c.args in
    ap not (sym (all_below_no (λ (q : ℕ). breedable (dimensions_of a.dims) a.n (plan_at a.pool.now q)) (plan_count a.pool.now) c.loop-p.p (omega arith) (sym c.breedable.ensures ∙ c.if-not-breedable.true)))

pub returns : goal.returns
returns c =
    let l = c.loop-p in
    let a = c.args in
    let e : l.p ≡ plan_count a.pool.now = omega arith in
    ap not (sym l.invariant ∙ ap (all_below (λ (q : ℕ). breedable (dimensions_of a.dims) a.n (plan_at a.pool.now q))) e)
