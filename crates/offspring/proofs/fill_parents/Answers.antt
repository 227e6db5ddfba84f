use Rattle.std.proofs.Common.{◌≡◌, ℕ, length, take, sym, ap, ◌∙◌, arith}
use lib.Seq.{get_or-take, length-take-le}
use Rattle.model.specs.Lists.{over}
use Rattle.model.specs.Plan.{plan_at}
use Rattle.model.specs.Draw.{draw_all}
use Rattle.model.specs.Setting.{words_of, sort_by_param, extract, dimensions_of, parent_in}
use Rattle.settings.proofs.Valid.{few}
use Rattle.candidates.proofs.Laid.{laid-first, laid_next, words-length}
use Rattle.list_laws.proofs.Rows.{row_within}
use Rattle.offspring.proofs.fill_parents.Goals as goal

pub loop-i-init : goal.loop-i-init
loop-i-init c = laid-first _ _ _ c.args.n

pub extract-c-requires : goal.extract-c-requires
extract-c-requires c = (c.requires.1 c.loop-i.i c.loop-i-test.true, c.requires.2)

pub overflow_mul-i : goal.overflow_mul-i
overflow_mul-i c =
    let a = c.args in
    let f = row_within c.loop-i.i a.count a.n (length a.parents.now) c.loop-i-test.true c.requires.3 in
    record { fits = omega arith }

pub put_candidate-requires : goal.put_candidate-requires
put_candidate-requires c =
    let a = c.args in
    let f = row_within c.loop-i.i a.count a.n (length a.parents.now) c.loop-i-test.true c.requires.3 in
    (few _ _ c.requires.2, omega (arith, c.loop-i.invariant.same))

pub loop-i-preserved : goal.loop-i-preserved
loop-i-preserved c =
    let a = c.args in
    let l = c.loop-i in
    let t = c.loop-i-test.true in
    let v = c.extract-c in
    laid_next (parent_in (dimensions_of a.dims) a.n (plan_at a.pool.now) (take a.count a.kept.now)) a.rng.s a.parents.now a.n l.i l.parents _ l.invariant _ _ _
    (v.ensures ∙ ap (λ (p : ℕ). extract (dimensions_of a.dims) a.n (sort_by_param (plan_at a.pool.now p).settings) l.rng.s) (sym (get_or-take a.count a.kept.now l.i 0 t)))
    (words-length v.result.value a.n) (row_within l.i a.count a.n (length a.parents.now) t c.requires.3) c.put_candidate.ensures

pub returns : goal.returns
returns c =
    let l = c.loop-i in
    let a = c.args in
    let f = parent_in (dimensions_of a.dims) a.n (plan_at a.pool.now) (take a.count a.kept.now) in
    let z = length-take-le a.count a.kept.now c.requires.0 in
    let e : l.i ≡ length (take a.count a.kept.now) = omega arith in record {
      words = l.invariant.written ∙ ap (λ k. over (words_of (draw_all f k a.rng.s).value) a.parents.now) e;
      state = l.invariant.state ∙ ap (λ k. (draw_all f k a.rng.s).state) e;
    }
