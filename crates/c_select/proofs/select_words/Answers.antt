-- `select_words`.
use mathlib.Core.Path.{subst}
use Rattle.model.specs.declared.Edition.{Edition}
use Rattle.model.specs.Calls.{word_request, lent, select_exit, Selects}
use Rattle.export_laws.specs.Coded.{rng_of}
use Rattle.export_laws.proofs.Export.{select_coded}
use Rattle.c_select.proofs.select_words.Goals as goal

pub returns : goal.returns
returns c =
    let a = c.args in
    let f = c.nsga3_select-answer in
    let promised = subst (λ (v : Edition). Selects (word_request v a.pool.now a.directions.now a.divisions a.size (rng_of a.state.now) a.ideal.now) (lent a.kept.now a.rules.now a.fronts.now a.lines.now)
    (select_exit f.result f.new.ideal (lent f.new.kept f.new.rules f.new.fronts f.new.lines)))
    c.edition_of.ensures f.ensures in
    select_coded _ _ _ _ promised c.code.ensures
