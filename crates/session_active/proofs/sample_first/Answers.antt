-- the candidates are drawn, and the plan takes the first
use Prim.Native.Nat.{◌<◌}
use mathlib.Core.Path.{◌≡◌, ap}
use mathlib.Core.Bool.{false, not}
use lib.ListN.{length}
use Rattle.model.specs.declared.Phase.TheVariants.{Discovery}
use Rattle.model.specs.Session.{State, state, past_discovery, max_come}
use mathlib.Core.List.{[]}
use Rattle.list_laws.proofs.Bools.{and_not, and_no}
use Rattle.session_laws.proofs.Request.{offspring_fit, not-refused}
use Rattle.session_laws.proofs.Steps.{long, phase-ok, some_dimension_lem}
use Rattle.session_active.proofs.Ways.{ready_first, adds-by, first_unbred, first-accepted, leaves_taken}
use native.Mathlib.Omega.{arith}
use Rattle.session_active.proofs.sample_first.Goals as goal

pub activate-session-requires : goal.activate-session-requires
activate-session-requires c =
    let a = c.args in
    let st : State = state c.args.session c.args.candidates.now c.args.plans.now c.args.next_dims.now c.args.pool.now in
    (c.requires.0.ok.dimensions, omega (arith, offspring_fit a.session [] c.requires.0.ok.config c.requires.0.ok.dimensions, (long st c.requires.0.room).words))

pub sample_from_candidate-requires : goal.sample_from_candidate-requires
sample_from_candidate-requires c =
    let a = c.args in
    let st : State = state c.args.session c.args.candidates.now c.args.plans.now c.args.next_dims.now c.args.pool.now in
    let l = long st c.requires.0.room in
    let e = c.activate-session in
    let r = ready_first st _ _ c.requires.0.ok (some_dimension_lem st a.plan c.requires.0.ok c.requires.1 c.requires.2) (e.ensures a.plans.now a.next_dims.now a.pool.now) in
    let same : length e.new.candidates ≡ length a.candidates.now = e.auto.candidates in
    (r.0, omega (arith, r.1), omega (arith, l.words), l.plans, l.next, λ new. omega (arith, r.1))

pub returns : goal.returns
returns c d =
    let a = c.args in
    let e = c.activate-session in
    let st : State = state c.args.session c.args.candidates.now c.args.plans.now c.args.next_dims.now c.args.pool.now in
    let o = adds-by st a.plan false (and_no (not (past_discovery a.session.phase)) _ c.requires.2) in
    let i = ap past_discovery c.requires.1 in
    let full : a.session.progress.n_plans < max_come = omega (arith, (phase-ok st Discovery c.requires.0.ok c.requires.1).no_plans) in
    leaves_taken st d a.plan a.history.now _ _ _ (c.sample_from_candidate.ensures a.pool.now) (e.ensures a.plans.now a.next_dims.now a.pool.now)
    (not-refused st d a.plan a.history.now (and_not _ _ o, and_not _ _ o) c.requires.0.few (first_unbred st a.history.now i) c.requires.0.room (λ new. full))
    (first-accepted st d a.plan a.history.now o i)
