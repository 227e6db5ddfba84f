-- `fill_kept`: by whether a front is split
use mathlib.Core.Path.{refl, sym, ◌∙◌}
use mathlib.Core.Bool.{true, false}
use native.Mathlib.Omega.{arith}
use Rattle.model.specs.Calls.{word_request}
use Rattle.model.specs.Association.{Request}
use Rattle.nsga3.proofs.Answer.{hands_by, whole_hands}
use Rattle.nsga3.proofs.fill_kept.Goals as goal

pub returns-then-split : goal.returns-then-split
returns-then-split c =
    let request-here : Request = word_request c.args.edition c.args.pool.now c.args.directions.now c.args.divisions c.args.size c.args.rng c.args.ideal.now in
    hands_by request-here _ _ _ _ _ _ _ _ true (sym c.requires.listed.cut.split ∙ c.if-split.true) c.select_split.ensures

pub returns : goal.returns
returns c =
    let request-here : Request = word_request c.args.edition c.args.pool.now c.args.directions.now c.args.divisions c.args.size c.args.rng c.args.ideal.now in
    let w = c.select_whole.ensures in
    hands_by request-here _ _ _ _ _ _ _ _ false (sym c.requires.listed.cut.split ∙ c.if-split.false)
    (whole_hands request-here _ _ _ _ _ _ _ _ c.args.order.now c.args.cut c.requires.listed _ c.plan_count-n.ensures refl w.0 w.1 w.2 w.3)
