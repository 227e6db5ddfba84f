-- as many wait as the edition has it, and the generation's number wraps
use Rattle.std.proofs.Common.{ℕ, ap, ◌∙◌, ap₂, rules}
use Rattle.model.specs.Edition.{waiting_of}
use Rattle.model.specs.Session.{renewed}
use Rattle.session_breeding.proofs.bred_session.Statement.{statement}
use Rattle.session_breeding.proofs.bred_session.Tie as tie

waiting-of-requires : tie.Need-waiting_of-waiting-requires
waiting-of-requires c κs = tt

remembered-after-requires : tie.Need-remembered_after-remembered-requires
remembered-after-requires c κs = c.requires

wrapping-add-u64-requires : tie.Need-wrapping_add_u64-number-requires
wrapping-add-u64-requires c κs = search rules

renewed-requires : tie.Need-renewed-requires
renewed-requires c κs = tt

returns : tie.Need-returns
returns c =
    let counted = c in
    let remembered = c in
    let waiting = c in
    let a = waiting.args in
    c.renewed.ensures
    ∙ ap (λ (w : ℕ). renewed a.session a.rng.s a.ideal_point w remembered.remembered_after-remembered.result counted.wrapping_add_u64-number.result) waiting.waiting_of-waiting.ensures
    ∙ ap₂ (λ (m g : ℕ). renewed a.session a.rng.s a.ideal_point (waiting_of a.session.config.edition a.session.config.population_size) m g)
    remembered.remembered_after-remembered.ensures counted.wrapping_add_u64-number.ensures

pub bred_session_spec : {M : Type 1} → statement M
bred_session_spec =
    tie.close (tie.spec waiting-of-requires remembered-after-requires wrapping-add-u64-requires renewed-requires returns)
