-- `select_split`: the marks, the table, the association, and niching behind the whole fronts
use Prim.Native.Nat.{◌*◌, ◌-◌, ◌≤◌}
use mathlib.Core.Path.{◌≡◌, refl, sym, subst, ◌∙◌}
use native.Mathlib.Omega.{arith}
use borrow.Author.Rules.{rules}
use borrow.Rule.Slice.PartMut.{mid_len, same_len_mid}
use lib.ListN.{length}
use Rattle.model.specs.Calls.{word_request}
use Rattle.model.specs.Association.{Request, objectives}
use Rattle.model.specs.Refusal.{max_pool, max_lines}
use Rattle.model.specs.Plan.{max_objectives}
use Rattle.association_laws.proofs.Request.{lines_at}
use Rattle.list_laws.proofs.Limits.{table-values}
use Rattle.plan_rows.specs.Filled.{GoodPool}
use Rattle.plan_rows.proofs.Pool.{pool_constraint_counts}
use Rattle.shaped_association.specs.Lined.{Shaped, Lined}
use Rattle.nsga3.proofs.Splitting.{order_below, shaped, some-marked, splits, hands}
use Rattle.nsga3.proofs.select_split.Goals as goal

pub mark_shapers-requires : goal.mark_shapers-requires
mark_shapers-requires c =
    let good-pool-here : GoodPool c.args.pool.now c.args.directions.now = let ok = c.requires.sorted_pool.limits in record { few = ok.few_plans; narrow = ok.narrow; good = ok.good } in
    let e = c.plan_count-n.ensures in
    let o = c.requires.sorted_pool.listed in (
      omega (arith, e),
      omega (arith, e, c.requires.sorted_pool.limits.few_plans),
      omega (arith, e, c.requires.sorted_pool.limits.few_plans),
      o.cut.ahead,
      omega (arith, o.cut.within, o.places),
      pool_constraint_counts good-pool-here e,
      λ i h. omega (arith, e, order_below c.requires.sorted_pool i (omega (arith, h, o.cut.within))),
    )

pub associate_marked-requires : goal.associate_marked-requires
associate_marked-requires c =
    let request-here : Request = word_request c.args.edition c.args.pool.now c.args.directions.now c.args.divisions c.args.size c.args.rng c.args.ideal.now in
    let shaped_marks-here : Shaped request-here c.mark_shapers.new.marks c.args.rows.now c.plan_count-n.result (objectives request-here) = shaped c.requires.sorted_pool c.requires.split_value c.plan_count-n.result c.plan_count-n.ensures _ _ c.mark_shapers.ensures in
    let ok = c.requires.sorted_pool.limits in
    let e = c.plan_count-n.ensures in
    let d = c.das_dennis-n_lines in
    let size : length d.new.table ≡ max_lines * max_objectives = d.auto.table in
    let wide : length c.mark_shapers.new.marks ≡ max_pool = c.mark_shapers.auto.marks in (
      ok.narrow,
      omega (arith, e, ok.few_plans),
      omega (arith, wide, e, ok.few_plans),
      subst (λ k. k * length c.args.directions.now ≤ length c.args.rows.now) (sym e) c.requires.sorted_pool.laid.table,
      omega (arith, size, table-values d.result (length c.args.directions.now) (omega (arith, d.ensures.lines, ok.few_lines)) ok.narrow),
      omega (arith, ok.ideal),
      omega (arith, e, ok.lines),
      omega (arith, e, ok.few_plans),
      some-marked c.requires.sorted_pool c.requires.split_value _ _ shaped_marks-here,
    )

pub niching_select-requires : goal.niching_select-requires
niching_select-requires c =
    let request-here : Request = word_request c.args.edition c.args.pool.now c.args.directions.now c.args.divisions c.args.size c.args.rng c.args.ideal.now in
    let shaped_marks-here : Shaped request-here c.mark_shapers.new.marks c.args.rows.now c.plan_count-n.result (objectives request-here) = shaped c.requires.sorted_pool c.requires.split_value c.plan_count-n.result c.plan_count-n.ensures _ _ c.mark_shapers.ensures in
    let associated-here : let a = c.associate_marked in
    Lined request-here c.plan_count-n.result (objectives request-here) c.args.ideal.now a.new.ideal c.args.lines.now a.new.lines a.new.distances = let d = c.das_dennis-n_lines in
    c.associate_marked.ensures request-here refl
    shaped_marks-here (λ j h. refl) (lines_at request-here c.requires.sorted_pool.limits.wide _ d.ensures.lines _ _ d.ensures.rows) d.ensures.lines in
    let ok = c.requires.sorted_pool.limits in
    let a = c.associate_marked in
    let f = c.list_whole in
    let far : length a.new.distances ≡ max_pool = a.auto.distances in
    splits c.requires.sorted_pool c.requires.split_value _ _ c.plan_count-n.ensures c.das_dennis-n_lines.ensures.lines _ _ _ _ _ associated-here _ _
    (omega (arith, a.auto.lines, ok.lines)) (omega (arith, far, ok.few_plans))
    (omega (arith, mid_len c.args.cut.whole (length f.new.kept) f.new.kept (omega arith), f.auto.kept, ok.kept))
    (omega (arith, mid_len c.args.cut.whole (length f.new.rules) f.new.rules (omega arith), f.auto.rules, ok.rules))

pub returns : goal.returns
returns c =
    let request-here : Request = word_request c.args.edition c.args.pool.now c.args.directions.now c.args.divisions c.args.size c.args.rng c.args.ideal.now in
    let shaped_marks-here : Shaped request-here c.mark_shapers.new.marks c.args.rows.now c.plan_count-n.result (objectives request-here) = shaped c.requires.sorted_pool c.requires.split_value c.plan_count-n.result c.plan_count-n.ensures _ _ c.mark_shapers.ensures in
    let associated-here : let a = c.associate_marked in
    Lined request-here c.plan_count-n.result (objectives request-here) c.args.ideal.now a.new.ideal c.args.lines.now a.new.lines a.new.distances = let d = c.das_dennis-n_lines in
    c.associate_marked.ensures request-here refl
    shaped_marks-here (λ j h. refl) (lines_at request-here c.requires.sorted_pool.limits.wide _ d.ensures.lines _ _ d.ensures.rows) d.ensures.lines in
    let whole-fits-here : c.args.cut.whole ≤ length c.list_whole.new.kept = omega (arith, c.requires.sorted_pool.listed.cut.fits, c.requires.sorted_pool.limits.kept, c.list_whole.auto.kept) in
    let whole-marked-here : c.args.cut.whole ≤ length c.list_whole.new.rules = omega (arith, c.requires.sorted_pool.listed.cut.fits, c.requires.sorted_pool.limits.rules, c.list_whole.auto.rules) in
    let ok = c.requires.sorted_pool.limits in
    let f = c.list_whole in
    hands c.requires.sorted_pool c.requires.split_value _ _ c.plan_count-n.ensures c.das_dennis-n_lines.ensures.lines _ _ _ _ _ associated-here
    ok.ideal c.args.kept.now f.new.kept _ c.args.rules.now f.new.rules _ _ whole-fits-here f.ensures.0 whole-marked-here f.ensures.1
    c.niching_select.ensures
