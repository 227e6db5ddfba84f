use Rattle.std.proofs.Common.{sym, arith}
use Rattle.model.specs.Row.{minimised}
use Rattle.list_laws.proofs.Built.{over_none, over-set}
use Rattle.pareto.proofs.to_minimize_space.Goals as goal

pub loop-j-init : goal.loop-j-init
loop-j-init c = sym (over_none _ _)

pub loop-j-preserved : goal.loop-j-preserved
loop-j-preserved c =
    let l = c.loop-j in
    over-set (minimised c.args.directions.now c.args.values.now) _ _ l.j _ (omega arith) l.invariant c.to_minimize.ensures
