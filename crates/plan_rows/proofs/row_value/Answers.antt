use Rattle.std.proofs.Common.{◌*◌, sym, ap, ◌∙◌, get_or}
use Rattle.model.specs.Plan.{plan_words}
use Rattle.model.specs.Row.{direction_of, to_minimize}
use Rattle.plan_rows.proofs.Rows.{row_at}
use Rattle.plan_rows.proofs.row_value.Goals as goal

pub returns : goal.returns
returns c =
    let a = c.args in
    let direction = direction_of (get_or a.directions.now a.j 0) in
    c.to_minimize.ensures ∙ ap (to_minimize direction) c.real_of_word-x.ensures
    ∙ sym (row_at a.directions.now a.pool.now (a.p * plan_words) a.j c.requires.2 c.requires.3)
