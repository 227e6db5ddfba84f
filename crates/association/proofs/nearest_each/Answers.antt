use Rattle.std.proofs.Common.{sym, arith}
use Rattle.list_laws.proofs.Built.{over_none, over-set}
use Rattle.association.proofs.nearest_each.Goals as goal

pub loop-p-init : goal.loop-p-init
loop-p-init c = record { line = sym (over_none _ _); distance = sym (over_none _ _) }

pub loop-p-preserved : goal.loop-p-preserved
loop-p-preserved c =
    let near = c.loop-p.invariant in
    let f = c.nearest_line-near.ensures in
    record { line = over-set _ _ _ _ _ (omega arith) near.line f.0; distance = over-set _ _ _ _ _ (omega arith) near.distance f.1 }
