-- `nsga3_generate_offspring`: the refusal's number, or the step
use mathlib.Core.Path.{◌≡◌, ap, sym, ◌∙◌}
use mathlib.Core.Bool.{false}
use borrow.Author.Rules.{rules}
use Rattle.model.specs.Setting.{Operators, operators_in}
use Rattle.model.specs.Refusal.{bad_dimensions}
use Rattle.model.specs.Calls.{Lent, lent, refused_by}
use Rattle.candidate_laws.proofs.Sound.{AllHeld}
use Rattle.generation_laws.proofs.Dimensions.{operators-good}
use Rattle.generation_laws.proofs.Answer.{refused_so, stepped_so}
use Rattle.generation.proofs.nsga3_generate_offspring.Goals as goal

pub returns-in-Err : goal.returns-in-Err
returns-in-Err c =
    let ops-here : Operators = operators_in c.args.operators in
    let at-here : Lent = lent c.args.kept.now c.args.rules.now c.args.fronts.now c.args.lines.now in
    let held-here : bad_dimensions ops-here.dims ops-here.dim_count ≡ false → AllHeld ops-here.dims ops-here.dim_count = operators-good c.args.operators _ c.well_formed.1.1.1.1.1.1.0 in
    let a = c.args in
    refused_so a.edition ops-here a.pool.now a.directions.now a.divisions a.size a.rng a.ideal.now at-here a.offspring.now held-here _
    (sym (ap refused_by c.in-Err.is) ∙ c.refusal-check.ensures)

pub returns-in-Ok : goal.returns-in-Ok
returns-in-Ok c =
    let ops-here : Operators = operators_in c.args.operators in
    let at-here : Lent = lent c.args.kept.now c.args.rules.now c.args.fronts.now c.args.lines.now in
    let held-here : bad_dimensions ops-here.dims ops-here.dim_count ≡ false → AllHeld ops-here.dims ops-here.dim_count = operators-good c.args.operators _ c.well_formed.1.1.1.1.1.1.0 in
    let a = c.args in
    stepped_so a.edition ops-here a.pool.now a.directions.now a.divisions a.size a.rng a.ideal.now at-here a.offspring.now held-here
    (sym (ap refused_by c.in-Ok.is) ∙ c.refusal-check.ensures) _ c.step.ensures
