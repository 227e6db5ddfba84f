use Rattle.std.proofs.Common.{ℕ, Float, Bool, not, sym, ap, ap₂, ◌∙◌, arith}
use Rattle.std.specs.Float.{nan}
use Rattle.model.specs.Lists.{any_below, keep_below}
use Rattle.model.specs.Plan.{plan_at, plan_count}
use Rattle.model.specs.Row.{row_of}
use Rattle.model.specs.Association.{least_from}
use Rattle.list_laws.proofs.Built.{over_none, over-set}
use Rattle.list_laws.proofs.Runs.{over-next}
use Rattle.session_window.specs.Sources.{has_line, counted}
use Rattle.session_window.proofs.put_least.Goals as goal

pub loop-j-init : goal.loop-j-init
loop-j-init c = sym (over_none _ _)

pub loop-j-preserved : goal.loop-j-preserved
loop-j-preserved c =
    let a = c.args in
    let l = c.loop-j in
    let count = plan_count a.pool.now in
    let every = c.no_line-every.ensures ∙ ap (λ (k : ℕ). not (any_below (has_line a.lines.now) k)) c.plan_count-n.ensures in
    over-set _ _ _ _ _ (omega arith) l.invariant
    (c.least_value.ensures
    ∙ ap₂ (λ (b : Float) (e : Bool). least_from b (λ p. row_of a.directions.now (plan_at a.pool.now p) l.j) (keep_below (counted e a.lines.now) count)) (over-next _ _ _ _ nan l.invariant) every)
