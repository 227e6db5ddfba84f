-- the step, what it leaves of the ideal, the plans that wait, what is remembered, and the session after it
use Rattle.std.proofs.Common.{ℕ, refl, ◌∙◌, length-take-le}
use lib.ListN.{length-replicate}
use Rattle.model.specs.Refusal.{max_pool}
use Rattle.session_breeding.proofs.Breeding.{step-good, kept_is, keeping, told, bred_is}
use Rattle.session_breeding.proofs.bred_on.Goals as goal

pub step-selection-requires-clause-candidates_value : goal.step-selection-requires-clause-candidates_value
step-selection-requires-clause-candidates_value c = step-good _ _ _ _ _ c.requires.0

pub left_of-left-requires : goal.left_of-left-requires
left_of-left-requires c =
    told _ _ _ _ _ c.requires.0 _ (c.step-selection.auto.lines ∙ length-replicate {A = ℕ} max_pool 0)

pub let_wait-requires : goal.let_wait-requires
let_wait-requires c =
    (keeping _ _ _ _ _ c.requires.0 _ (kept_is _ _ _ _ _ c.requires.0 _ c.args.pool.now _ _ _ _ _ c.step-selection.ensures), c.requires.1)

pub returns : goal.returns
returns c =
    let p = c.requires.0 in
    let a = c.args in
    let l = c.left_of-left.ensures in
    bred_is a.session _ _ _ _ p a.candidates.now a.pool.now _ _ _ _ _ c.step-selection.ensures _ _ _ _ _ _ (c.step-selection.auto.ideal ∙ length-take-le _ _ p.ok.ideal) refl l.0 l.1
    c.let_wait.ensures c.remember.ensures c.bred_session.ensures
