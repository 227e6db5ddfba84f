-- breeding's answer tells whether the call was refused
use mathlib.Core.Path.{◌≡◌, ap, ◌∙◌}
use lib.ListN.{length}
use Rattle.std.specs.Prelude.{None, Some}
use Rattle.model.specs.Session.{State, state}
use Rattle.model.specs.Calls.{refused_by}
use Rattle.session_breeding.proofs.Breeding.{blank-room}
use Rattle.session_laws.proofs.Request.{breeds_active, active_discovers, active_good, breed-refusal}
use Rattle.session_laws.proofs.Steps.{long}
use Rattle.session_laws.proofs.Sample.{active_phase}
use Rattle.session_laws.specs.Refused.{breed_refusal}
use Rattle.session_active.proofs.Ways.{without_slices, gatherable, ready_active, ready_bred, breed_tells, leaves_refused, leaves_taken, bred-accepted}
use native.Mathlib.Omega.{arith}
use Rattle.session_active.proofs.sample_bred.Goals as goal

pub breed-bred-requires : goal.breed-bred-requires
breed-bred-requires c =
    let a = c.args in
    let st : State = state c.args.session c.args.candidates.now c.args.plans.now c.args.next_dims.now c.args.pool.now in
    let l = long st c.requires.0.room in
    (gatherable st a.history.now (without_slices st c.requires.0.ok) c.requires.1, l.pool, blank-room, l.words)

pub sample_from_candidate-requires : goal.sample_from_candidate-requires
sample_from_candidate-requires c =
    let a = c.args in
    let st : State = state c.args.session c.args.candidates.now c.args.plans.now c.args.next_dims.now c.args.pool.now in
    let l = long st c.requires.0.room in
    let b = c.breed-bred in
    let k = breed_tells st a.history.now (breed_refusal st a.history.now) None _ _ (b.ensures a.next_dims.now) (ap refused_by c.in-Ok.is) in
    let r = ready_bred st a.history.now _ _ _
    (ready_active st c.requires.0.ok (active_phase _ (breeds_active st a.history.now c.requires.1))) k.1 in
    let same : length b.new.candidates ≡ length a.candidates.now = b.auto.candidates in
    (r.0, omega (arith, r.1), omega (arith, l.words), l.plans, l.next, λ new. omega (arith, r.1))

pub returns-in-Err : goal.returns-in-Err
returns-in-Err c d =
    let a = c.args in
    let st : State = state c.args.session c.args.candidates.now c.args.plans.now c.args.next_dims.now c.args.pool.now in
    let i = breeds_active st a.history.now c.requires.1 in
    let b = c.breed-bred in
    let k = breed_tells st a.history.now (breed_refusal st a.history.now) (Some c.in-Err.refusal) _ _ (b.ensures a.next_dims.now) (ap refused_by c.in-Err.is) in
    leaves_refused st d a.plan a.history.now c.in-Err.refusal _ _ _ _ c.refused.ensures k.1
    (breed-refusal st d a.plan a.history.now (active_good st d a.plan i) c.requires.0.few c.requires.1 c.requires.0.room ∙ k.0)

pub returns-in-Ok : goal.returns-in-Ok
returns-in-Ok c d =
    let a = c.args in
    let st : State = state c.args.session c.args.candidates.now c.args.plans.now c.args.next_dims.now c.args.pool.now in
    let b = c.breed-bred in
    let k = breed_tells st a.history.now (breed_refusal st a.history.now) None _ _ (b.ensures a.next_dims.now) (ap refused_by c.in-Ok.is) in
    let i = breeds_active st a.history.now c.requires.1 in
    leaves_taken st d a.plan a.history.now _ _ _ (c.sample_from_candidate.ensures _) k.1
    (breed-refusal st d a.plan a.history.now (active_good st d a.plan i) c.requires.0.few c.requires.1 c.requires.0.room ∙ k.0)
    (bred-accepted st d a.plan a.history.now (active_discovers st a.plan i) i c.requires.1)
