use Rattle.std.proofs.Common.{ap, sym, ◌∙◌, arith, get_or}
use lib.Ieee.{nan}
use Rattle.model.specs.Real.{◌⊖◌}
use Rattle.model.specs.Association.{intercept_from}
use Rattle.list_laws.proofs.Built.{over_none, over-set}
use Rattle.normalization.proofs.find_intercepts.Goals as goal

pub loop-j-init : goal.loop-j-init
loop-j-init c = sym (over_none _ _)

pub loop-j-preserved : goal.loop-j-preserved
loop-j-preserved c =
    let l = c.loop-j in
    over-set _ _ _ _ _ (omega arith) l.invariant
    (c.intercept.ensures ∙ ap (λ t. intercept_from (t ⊖ get_or c.args.ideal.now l.j nan)) c.greatest_of.ensures)
