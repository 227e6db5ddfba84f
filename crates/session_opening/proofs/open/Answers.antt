-- what it answers tells whether it was refused
use mathlib.Core.Path.{refl, sym, ◌∙◌}
use Rattle.std.specs.Prelude.{Ok, Err}
use Rattle.model.specs.declared.Edition.TheVariants.{First}
use Rattle.model.specs.Session.{blank}
use Rattle.session_laws.proofs.Opened.{directions-good, divisions-good, opening_tells}
use Rattle.session_opening.proofs.Opening.{by_answer}
use Rattle.session_opening.proofs.open.Goals as goal

pub returns-in_default : goal.returns-in_default
returns-in_default c =
    by_answer _ _ _ _ _ _ _ _ _ _ (Err c.in_default.field-0) _ blank c.open_refusal-outcome.ensures c.in_default.is c.blank-session.ensures refl

pub opened-session-requires : goal.opened-session-requires
opened-session-requires c =
    let w = c.args.window in
    let r = opening_tells _ blank (Ok tt) (sym c.open_refusal-outcome.ensures ∙ c.in-Ok.is) in
    (directions-good First _ 0 _ _ _ _ _ w r, divisions-good First _ 0 _ _ _ _ _ w r)

pub returns : goal.returns
returns c =
    let a = c.args in
    by_answer a.edition a.directions.now a.seed a.size a.divisions a.probability a.crossover_eta a.mutation_eta a.window _ (Ok tt) _ _
    c.open_refusal-outcome.ensures c.in-Ok.is c.opened-session.ensures refl
