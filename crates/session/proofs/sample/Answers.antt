-- the answer is the definition's, of which the rest is proved
use Rattle.model.specs.Session.{state}
use Rattle.typed_laws.proofs.Held.{dimension_held}
use Rattle.session_laws.proofs.Sample.{samples}
use Rattle.session.proofs.sample.Goals as goal

pub returns : goal.returns
returns c =
    let a = c.args in
    samples (state a.session a.candidates.now a.plans.now a.next_dims.now a.pool.now) a.distribution a.plan a.history.now c.requires _ c.well_formed.0
    (dimension_held a.distribution _ c.well_formed.1.0) _ c.answered.ensures
