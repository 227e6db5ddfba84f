use Rattle.std.proofs.Common.{ap, sym, ◌∙◌, arith}
use lib.Ieee.{nan}
use Rattle.list_laws.proofs.Built.{over_none, over-set}
use Rattle.list_laws.proofs.Runs.{over-next}
use Rattle.association_laws.specs.Flat.{least_below}
use Rattle.normalization.proofs.update_ideal_point.Goals as goal

pub loop-j-init : goal.loop-j-init
loop-j-init c = sym (over_none _ _)

pub loop-j-preserved : goal.loop-j-preserved
loop-j-preserved c =
    let l = c.loop-j in
    let a = c.args in
    over-set _ _ _ _ _ (omega arith) l.invariant
    (c.least_of.ensures ∙ ap (λ t. least_below t a.rows.now a.n a.m l.j) (over-next _ _ _ _ nan l.invariant))
