use Rattle.std.proofs.Common.{◌≡◌, length, ap, ◌∙◌, arith}
use Rattle.model.specs.Lists.{over}
use Rattle.model.specs.Setting.{words_of, sample_candidates, dimensions_of}
use Rattle.settings.proofs.Valid.{few}
use Rattle.list_laws.proofs.Rows.{row_within}
use Rattle.candidates.proofs.Laid.{laid-first, laid_next, words-length}
use Rattle.candidates.proofs.sample_candidates.Goals as goal

pub loop-i-init : goal.loop-i-init
loop-i-init c = laid-first _ _ _ c.args.n

pub overflow_mul-i : goal.overflow_mul-i
overflow_mul-i c =
    let a = c.args in
    let f = row_within c.loop-i.i a.count a.n (length a.out.now) c.loop-i-test.true c.requires.1 in
    record { fits = omega arith }

pub put_candidate-requires : goal.put_candidate-requires
put_candidate-requires c =
    let a = c.args in
    let f = row_within c.loop-i.i a.count a.n (length a.out.now) c.loop-i-test.true c.requires.1 in
    (few _ _ c.requires.0, omega (arith, c.loop-i.invariant.same))

pub loop-i-preserved : goal.loop-i-preserved
loop-i-preserved c =
    let l = c.loop-i in
    let a = c.args in
    let v = c.sample_all-c in
    laid_next _ a.rng.s a.out.now a.n l.i l.out _ l.invariant _ _ _ v.ensures (words-length v.result.value a.n)
    (row_within l.i a.count a.n (length a.out.now) c.loop-i-test.true c.requires.1) c.put_candidate.ensures

pub returns : goal.returns
returns c =
    let l = c.loop-i in
    let a = c.args in
    let e : l.i ≡ a.count = omega arith in
    let d = ap (λ k. sample_candidates (dimensions_of a.dims) a.n k a.rng.s) e in record {
      words = l.invariant.written ∙ ap (λ x. over (words_of x.value) a.out.now) d;
      state = l.invariant.state ∙ ap (λ x. x.state) d;
    }
