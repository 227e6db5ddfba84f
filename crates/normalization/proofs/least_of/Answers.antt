use Rattle.std.proofs.Common.{sym, ◌∙◌}
use lib.Ieee.{lt}
use Rattle.list_laws.proofs.Best.{best_none, best_more}
use Rattle.association_laws.specs.Flat.{column}
use Rattle.normalization.proofs.least_of.Goals as goal
use Rattle.normalization.proofs.least_of.Goals.{then-v-least, else-v-least}

pub loop-p-init : goal.loop-p-init
loop-p-init c = let a = c.args in sym (best_none lt a.start (column a.rows.now a.m a.j))

pub loop-p-preserved : goal.loop-p-preserved
loop-p-preserved c =
    let l = c.loop-p in
    let a = c.args in
    let f = column a.rows.now a.m a.j in
    elim c.if-v-least.branch [
      | then-v-least w ↦ w.least-is ∙ best_more lt a.start f l.p l.invariant w.if-v-least.true
      | else-v-least w ↦ w.least-is ∙ best_more lt a.start f l.p l.invariant w.if-v-least.false
    ]
