use Rattle.std.proofs.Common.{◌≡◌, sym, ◌∙◌, arith}
use Rattle.list_laws.proofs.Tests.{any_below_none, any_below_yes, any_below_no, any_below-skip}
use Rattle.front_laws.proofs.Domination.{dominates_worse, dominates-better}
use Rattle.domination.proofs.dominates.Goals as goal
use Rattle.domination.proofs.dominates.Goals.{then-x-y, else-x-y}

pub loop-j-init : goal.loop-j-init
loop-j-init c = record { worse = any_below_none _; better = sym (any_below_none _) }

pub loop-j-preserved : goal.loop-j-preserved
loop-j-preserved c =
    let l = c.loop-j in record {
      worse = any_below_no _ _ l.invariant.worse c.if-y-x.false;
      better = elim c.if-x-y.branch [
        | then-x-y w ↦ w.better-is ∙ sym (any_below_yes _ _ w.if-x-y.true)
        | else-x-y w ↦ w.better-is ∙ l.invariant.better ∙ sym (any_below-skip _ _ w.if-x-y.false)
      ];
    }

pub returns-then-y-x : goal.returns-then-y-x
returns-then-y-x c = sym (dominates_worse _ _ _ c.loop-j.j (omega arith) c.if-y-x.true)

pub returns : goal.returns
returns c =
    let l = c.loop-j in
    let e : l.j ≡ c.args.m = omega arith in
    l.invariant.better ∙ rw e (sym (dominates-better _ _ _ (rw e at l.invariant.worse)))
