use Rattle.std.proofs.Common.{◌≡◌, refl, ap, ◌∙◌, length, get_or, arith}
use lib.Seq.{sets}
use Rattle.model.specs.Lists.{list_below}
use Rattle.list_laws.proofs.Runs.{run_none, run_more}
use Rattle.list_laws.proofs.Built.{list_below-places}
use Rattle.words.proofs.put.Goals as goal

pub loop-j-init : goal.loop-j-init
loop-j-init c = run_none _ _ _

pub loop-j-preserved : goal.loop-j-preserved
loop-j-preserved c = run_more _ _ _ _ _ _ c.loop-j.invariant refl

pub returns : goal.returns
returns c =
    let l = c.loop-j in
    let a = c.args in
    let e : l.j ≡ length a.block.now = omega arith in
    l.invariant ∙ ap (λ x. sets a.words.now a.at x) (ap (list_below (λ i. get_or a.block.now i 0)) e ∙ list_below-places 0 a.block.now)
