use Rattle.std.proofs.Common.{◌∙◌, get_or, arith}
use lib.Dec.{eqb}
use Rattle.model.specs.Hyperplane.{same_before}
use Rattle.plane_checks.proofs.Any.{any-front}
use Rattle.plane_checks.proofs.same_before.Goals as goal

pub returns : goal.returns
unfolding same_before
returns c =
    let a = c.args in
    c.contains.ensures.value ∙ any-front (λ q. eqb q (get_or a.extremes.now a.i 0)) 0 a.extremes.now a.i (omega arith)
