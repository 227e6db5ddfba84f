use Rattle.std.proofs.Common.{◌≡◌, length, sym, ap, ap₂, ◌∙◌, set, arith}
use Rattle.model.specs.Lists.{list_below, over}
use Rattle.model.specs.Setting.{max_dims}
use Rattle.list_laws.proofs.Built.{list_below-length, over_none, over-more, over-all}
use Rattle.session_words.specs.Coding.{info_at, dimensions_at}
use Rattle.session_words.proofs.dimensions_of_words.Goals as goal

pub loop-d-init : goal.loop-d-init
loop-d-init c = sym (over_none _ _)

pub loop-d-preserved : goal.loop-d-preserved
loop-d-preserved c =
    let n : length c.blank_dimensions-dims.result ≡ max_dims = ap length c.blank_dimensions-dims.ensures in
    ap₂ (λ x y. set x c.loop-d.d y) c.loop-d.invariant (ap (λ x. record { distribution = x }) c.dimension_of_words-distribution.ensures)
    ∙ over-more (info_at c.args.words.now c.args.from) c.loop-d.d c.blank_dimensions-dims.result (omega arith)

pub returns : goal.returns
unfolding dimensions_at
returns c =
    let f = info_at c.args.words.now c.args.from in
    let dims = c.blank_dimensions-dims.result in
    let n : length dims ≡ max_dims = ap length c.blank_dimensions-dims.ensures in
    let e : c.loop-d.d ≡ max_dims = omega arith in
    c.loop-d.invariant ∙ ap (λ x. over (list_below f x) dims) e ∙ over-all (list_below f max_dims) dims (omega (arith, list_below-length f max_dims))
