-- `generate_offspring_words`.
use mathlib.Core.Path.{ap, subst}
use Rattle.export_laws.proofs.Export.{step_coded}
use Rattle.model.specs.declared.Edition.{Edition}
use Rattle.model.specs.Calls.{word_request, lent, step_exit, Steps}
use Rattle.model.specs.Setting.{operators}
use Rattle.export_laws.specs.Coded.{rng_of}
use Rattle.session_words.specs.Coding.{dimension_count}
use Rattle.c_generate.proofs.generate_offspring_words.Goals as goal

pub returns : goal.returns
returns c =
    let a = c.args in
    let f = c.nsga3_generate_offspring-step in
    let promised = subst (λ (v : Edition). Steps (operators c.dimensions_of_words-infos.result (dimension_count a.dimensions.now) a.crossover_prob a.crossover_eta a.mutation_eta)
    (word_request v a.pool.now a.directions.now a.divisions a.size (rng_of a.state.now) a.ideal.now) (lent a.kept.now a.rules.now a.fronts.now a.lines.now) a.offspring.now
    (step_exit f.result f.new.ideal (lent f.new.kept f.new.rules f.new.fronts f.new.lines) f.new.offspring))
    c.edition_of.ensures f.ensures in
    let e = ap (λ x. operators x (dimension_count a.dimensions.now) a.crossover_prob a.crossover_eta a.mutation_eta) c.dimensions_of_words-infos.ensures in
    step_coded _ _ _ _ _ _ _ _ _ e promised c.value_or.ensures c.code.ensures
