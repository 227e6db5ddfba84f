use Rattle.std.proofs.Common.{ℕ, ◌≡◌, ◌+◌, ◌%◌, get_or, sym, ap, ap₂, ◌∙◌, set, arith}
use Rattle.model.specs.Lists.{list_below, over}
use Rattle.model.specs.Plan.{max_objectives}
use Rattle.list_laws.proofs.Built.{list_below-length, over_none, over-more, over-all}
use Rattle.session_words.specs.Coding.{marks_at}
use Rattle.session_words.specs.Place as place
use Rattle.session_words.proofs.marks_at.Goals as goal

pub loop-i-init : goal.loop-i-init
loop-i-init c = sym (over_none _ _)

pub loop-i-preserved : goal.loop-i-preserved
loop-i-preserved c =
    ap₂ (λ x y. set x c.loop-i.i y) c.loop-i.invariant c.mark_at.ensures ∙ over-more (λ i. get_or c.args.words.now (place.directions + i) 0 % 256) c.loop-i.i _ (omega arith)

pub returns : goal.returns
unfolding marks_at
returns c =
    let e : c.loop-i.i ≡ max_objectives = omega arith in
    let f = λ (i : ℕ). get_or c.args.words.now (place.directions + i) 0 % 256 in
    c.loop-i.invariant ∙ ap (λ x. over (list_below f x) _) e ∙ over-all (list_below f max_objectives) _ (omega (arith, list_below-length f max_objectives))
