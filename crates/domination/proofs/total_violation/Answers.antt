use Rattle.std.proofs.Common.{◌≡◌, sym, ap, ◌∙◌, arith, length}
use lib.Ieee.{neg, of_bits}
use Rattle.model.specs.Real.{◌⊕◌}
use Rattle.front_laws.proofs.Violation.{violation_to, violation_none, violation-more, violation-all}
use Rattle.domination.proofs.total_violation.Goals as goal
use Rattle.domination.proofs.total_violation.Goals.{then-c, else-c}

pub loop-c-init : goal.loop-c-init
unfolding of_bits neg
loop-c-init c = sym (violation_none c.args.constraints.now)

pub loop-c-preserved : goal.loop-c-preserved
loop-c-preserved c =
    let l = c.loop-c in
    let cs = c.args.constraints.now in
    elim c.if-c.branch [
      | then-c w ↦ ap (λ v. v ⊕ c.if-c.sum) l.invariant ∙ ap (λ v. violation_to cs l.c-index ⊕ v) w.sum-is ∙ sym (violation-more cs l.c-index _ w.if-c.true)
      | else-c w ↦ ap (λ v. v ⊕ c.if-c.sum) l.invariant ∙ ap (λ v. violation_to cs l.c-index ⊕ v) w.sum-is ∙ sym (violation-more cs l.c-index _ w.if-c.false)
    ]

pub returns : goal.returns
returns c =
    let e : c.loop-c.c-index ≡ length c.args.constraints.now = omega arith in
    (rw e at c.loop-c.invariant) ∙ sym (violation-all _)
