use Rattle.std.proofs.Common.{sym, ◌∙◌}
use borrow.Author.Tests.{lt-ltb, le-ltb}
use lib.Dec.{ltb}
use Rattle.list_laws.proofs.Best.{best_none, best_more}
use Rattle.niching_lines.proofs.least_count.Goals as goal
use Rattle.niching_lines.proofs.least_count.Goals.{then-c-least, else-c-least}

pub loop-l-init : goal.loop-l-init
loop-l-init c = sym (best_none ltb _ _)

pub loop-l-preserved : goal.loop-l-preserved
loop-l-preserved c =
    let l = c.loop-l in
    let e = c.open_count-c.ensures in
    elim c.if-c-least.branch [
      | then-c-least w ↦ w.least-is ∙ e ∙ best_more ltb _ _ _ l.invariant (lt-ltb _ _ (rw e at w.if-c-least.true))
      | else-c-least w ↦ w.least-is ∙ best_more ltb _ _ _ l.invariant (le-ltb _ _ (rw e at w.if-c-least.false))
    ]
