use Rattle.std.proofs.Common.{sym, ◌∙◌, true}
use lib.Ieee.{inf, div, of_bits, neg}
use Rattle.list_laws.proofs.Best.{best_none, best_more}
use Rattle.model.specs.Real.{above}
use Rattle.association_laws.specs.Flat.{column}
use Rattle.normalization.proofs.greatest_of.Goals as goal
use Rattle.normalization.proofs.greatest_of.Goals.{then-best-v, else-best-v}

pub loop-p-init : goal.loop-p-init
unfolding div of_bits neg
loop-p-init c = let a = c.args in sym (best_none above (inf true) (column a.rows.now a.m a.j))

pub loop-p-preserved : goal.loop-p-preserved
loop-p-preserved c =
    let l = c.loop-p in
    let a = c.args in
    let f = column a.rows.now a.m a.j in
    elim c.if-best-v.branch [
      | then-best-v w ↦ w.best-is ∙ best_more above (inf true) f l.p l.invariant w.if-best-v.true
      | else-best-v w ↦ w.best-is ∙ best_more above (inf true) f l.p l.invariant w.if-best-v.false
    ]
