use Rattle.std.proofs.Common.{◌≡◌, Bool, ◌||◌, sym, ap, ◌∙◌}
use Rattle.std.specs.Float.Ieee.{lt}
use Rattle.model.specs.Plan.{plan_at}
use Rattle.model.specs.Row.{row_of}
use Rattle.list_laws.proofs.Best.{among_none}
use Rattle.session_window.specs.Sources.{has_line, counted}
use Rattle.session_window.proofs.Least.{least_more}
use Rattle.session_window.proofs.least_value.Goals as goal
use Rattle.session_window.proofs.least_value.Goals.{then-every, else-every}

pub loop-p-init : goal.loop-p-init
loop-p-init c =
    let a = c.args in
    sym (among_none lt a.start (λ p. row_of a.directions.now (plan_at a.pool.now p) a.j) (counted a.every a.lines.now))

pub loop-p-preserved : goal.loop-p-preserved
loop-p-preserved c =
    let a = c.args in
    let l = c.loop-p in
    let takes : c.if-every.takes ≡ counted a.every a.lines.now l.p = elim c.if-every.branch [
      | then-every w ↦ w.takes-is ∙ w.if-every.true ∙ sym (ap (λ (b : Bool). b || has_line a.lines.now l.p) w.if-every.true)
      | else-every w ↦ w.takes-is ∙ sym (ap (λ (b : Bool). b || has_line a.lines.now l.p) w.if-every.false)
    ] in
    least_more a.start (λ p. row_of a.directions.now (plan_at a.pool.now p) a.j) (counted a.every a.lines.now) l.p _ _ _ takes l.invariant
    c.least_with-least.ensures
