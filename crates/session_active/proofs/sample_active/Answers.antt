-- breeding comes first, then refusal 11
use Prim.Native.Nat.{◌*◌, ◌≤◌}
use lib.ListN.{length}
use mathlib.Core.Path.{refl, sym, ap, ◌∙◌}
use mathlib.Core.Bool.{true, false}
use Rattle.model.specs.declared.Refusal.TheVariants as why
use Rattle.model.specs.declared.Phase.TheVariants.{Active}
use Rattle.model.specs.Session.{State, state, past_discovery, waiting_count}
use Rattle.model.specs.Plan.{plan_words}
use Rattle.session_laws.proofs.Request.{waits-held, active_discovers, active_good, room-left, refused_11, not-refused}
use Rattle.session_laws.proofs.Steps.{long, phase-ok}
use Rattle.session_active.proofs.Ways.{ready_active, breeds-by, active_accepted, leaves_refused, leaves_accepted}
use native.Mathlib.Omega.{arith}
use Rattle.session_active.proofs.sample_active.Goals as goal

pub sample_bred-requires : goal.sample_bred-requires
sample_bred-requires c =
    let a = c.args in
    let st : State = state c.args.session c.args.candidates.now c.args.plans.now c.args.next_dims.now c.args.pool.now in
    let held : waiting_count st * plan_words ≤ length a.pool.now = waits-held st c.requires.0.ok (long st c.requires.0.room).pool in
    (c.requires.0, breeds-by st a.history.now _ true (ap past_discovery c.requires.1) held c.evaluated.ensures c.if-evaluated.true)

pub full-requires : goal.full-requires
full-requires c =
    let a = c.args in
    let st : State = state c.args.session c.args.candidates.now c.args.plans.now c.args.next_dims.now c.args.pool.now in
    omega (arith, (phase-ok st Active c.requires.0.ok c.requires.1).room, (long st c.requires.0.room).plans)

pub returns-then-full : goal.returns-then-full
returns-then-full c d =
    let a = c.args in
    let st : State = state c.args.session c.args.candidates.now c.args.plans.now c.args.next_dims.now c.args.pool.now in
    let i = ap past_discovery c.requires.1 in
    let held : waiting_count st * plan_words ≤ length a.pool.now = waits-held st c.requires.0.ok (long st c.requires.0.room).pool in
    let b = breeds-by st a.history.now _ false i held c.evaluated.ensures c.if-evaluated.false in
    leaves_refused st d a.plan a.history.now why.Generation a.session a.candidates.now a.pool.now _ c.refused.ensures refl
    (refused_11 st d a.plan a.history.now (active_good st d a.plan i) c.requires.0.few b c.requires.0.room (sym c.full.ensures ∙ c.if-full.true))

pub sample_from_candidate-requires : goal.sample_from_candidate-requires
sample_from_candidate-requires c =
    let a = c.args in
    let st : State = state c.args.session c.args.candidates.now c.args.plans.now c.args.next_dims.now c.args.pool.now in
    let l = long st c.requires.0.room in (
      ready_active st c.requires.0.ok c.requires.1,
      (phase-ok st Active c.requires.0.ok c.requires.1).room,
      l.words,
      l.plans,
      l.next,
      room-left a.session.progress.n_plans _ (sym c.full.ensures ∙ c.if-full.false),
    )

pub returns : goal.returns
returns c d =
    let a = c.args in
    let st : State = state c.args.session c.args.candidates.now c.args.plans.now c.args.next_dims.now c.args.pool.now in
    let i = ap past_discovery c.requires.1 in
    let held : waiting_count st * plan_words ≤ length a.pool.now = waits-held st c.requires.0.ok (long st c.requires.0.room).pool in
    let b = breeds-by st a.history.now _ false i held c.evaluated.ensures c.if-evaluated.false in
    leaves_accepted st d a.plan a.history.now _ _ (c.sample_from_candidate.ensures a.pool.now)
    (not-refused st d a.plan a.history.now (active_good st d a.plan i) c.requires.0.few b c.requires.0.room
    (room-left a.session.progress.n_plans _ (sym c.full.ensures ∙ c.if-full.false)))
    (active_accepted st d a.plan a.history.now (active_discovers st a.plan i) i b)
