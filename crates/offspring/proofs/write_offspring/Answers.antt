use Rattle.std.proofs.Common.{◌≡◌, ℕ, ◌+◌, ◌/◌, get_or, ap, ◌∙◌, arith}
use Rattle.model.specs.Lists.{over}
use Rattle.model.specs.Setting.{words_of, operators_in}
use Rattle.settings.specs.Candidate.{settings_of, parents_in}
use Rattle.settings.proofs.Valid.{few}
use Rattle.candidates.proofs.Laid.{words-length}
use Rattle.offspring.proofs.Laying.{bred_by, bred_none, bred-more, bred-done}
use Rattle.offspring.proofs.write_offspring.Goals as goal

pub loop-k-init : goal.loop-k-init
loop-k-init c =
    let a = c.args in
    let o = operators_in a.operators in
    bred_none o (parents_in o.dims o.dim_count a.parents.now a.count) (λ (i : ℕ). get_or a.ranks.now i 0) a.rng.s a.size a.offspring.now o.dim_count

pub brood-c-requires : goal.brood-c-requires
brood-c-requires c = (c.requires.0, c.requires.1, c.requires.2, c.requires.3, c.requires.4)

pub put_children-requires : goal.put_children-requires
put_children-requires c = (few _ _ c.requires.3, omega (arith, c.loop-k-test.true), omega (arith, c.loop-k.invariant.same, c.requires.5))

pub loop-k-preserved : goal.loop-k-preserved
loop-k-preserved c =
    let a = c.args in
    let o = operators_in a.operators in
    let n = o.dim_count in
    let l = c.loop-k in
    let b = c.brood-c in
    bred-more o (parents_in o.dims n a.parents.now a.count) (λ (i : ℕ). get_or a.ranks.now i 0) a.rng.s a.size n (settings_of b.result.first n) (settings_of b.result.second n)
    (words-length b.result.first n) (words-length b.result.second n) a.offspring.now l.k l.offspring _ l.invariant
    (omega (arith, c.loop-k-test.true)) c.requires.5 _ _ b.ensures c.put_children.ensures

pub returns : goal.returns
returns c =
    let a = c.args in
    let o = operators_in a.operators in
    let ps = parents_in o.dims o.dim_count a.parents.now a.count in
    let rs = λ (i : ℕ). get_or a.ranks.now i 0 in
    let l = c.loop-k in
    let e : l.k ≡ (a.size + 1) / 2 = omega arith in
    let f = ap (bred_by o ps rs a.rng.s a.size) e ∙ bred-done o ps rs a.rng.s a.size in record {
      words = l.invariant.written ∙ ap (λ d. over (words_of d.value) a.offspring.now) f;
      state = l.invariant.state ∙ ap (λ d. d.state) f;
    }
