use Rattle.std.proofs.Common.{ap, sym, arith}
use lib.Ieee.{nan}
use Rattle.model.specs.Real.{◌⊘◌}
use Rattle.list_laws.proofs.Built.{over_none, over-set}
use Rattle.list_laws.proofs.Runs.{over-next}
use Rattle.columns.proofs.divide.Goals as goal

pub loop-b-init : goal.loop-b-init
loop-b-init c = sym (over_none _ _)

pub loop-b-preserved : goal.loop-b-preserved
loop-b-preserved c =
    let l = c.loop-b in
    over-set _ _ _ _ _ (omega arith) l.invariant (ap (λ s. s ⊘ c.args.norm) (over-next _ _ _ _ nan l.invariant))
