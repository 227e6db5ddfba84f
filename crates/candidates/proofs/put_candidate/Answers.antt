use Rattle.std.proofs.Common.{◌≡◌, sym, ap, ◌∙◌, arith}
use lib.Seq.{sets}
use Rattle.model.specs.Lists.{list_below}
use Rattle.model.specs.Setting.{to_word}
use Rattle.settings.specs.Candidate.{slot_of}
use Rattle.list_laws.proofs.Runs.{run_none, run_more}
use Rattle.candidates.proofs.Laid.{words-below}
use Rattle.candidates.proofs.put_candidate.Goals as goal

pub loop-j-init : goal.loop-j-init
loop-j-init c = run_none _ _ _

pub loop-j-preserved : goal.loop-j-preserved
loop-j-preserved c =
    let l = c.loop-j in
    let a = c.args in
    run_more (λ i. to_word (slot_of a.params i)) _ _ a.at l.j _ l.invariant c.to_word.ensures

pub returns : goal.returns
returns c =
    let l = c.loop-j in
    let a = c.args in
    let e : l.j ≡ a.n = omega arith in
    l.invariant ∙ ap (λ x. sets a.out.now a.at x) (ap (list_below (λ i. to_word (slot_of a.params i))) e ∙ sym (words-below a.params a.n))
