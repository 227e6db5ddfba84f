-- The ways of a call: what it meets, and what it leaves.
use Prim.Native.Nat.{ℕ, ◌*◌, ◌≤◌, ◌<◌}
use mathlib.Core.Path.{◌≡◌, refl, sym, ap, ◌∙◌, subst}
use mathlib.Core.Bool.{Bool, true, false}
use mathlib.Core.List.{List, [], ◌∷◌}
use Rattle.std.specs.Prelude.{Option, None, Some}
use lib.Ieee.{Float}
use lib.ListN.{length}
use Rattle.list_laws.proofs.Bools.{and_not_left, and_not, and_no, past}
use borrow.Author.Tests.{le-leb, lt-leb}
use Rattle.model.specs.declared.Refusal.{Refusal}
use Rattle.model.specs.declared.Refusal.TheVariants as why
use Rattle.model.specs.declared.Distribution.{Distribution}
use Rattle.model.specs.declared.Phase.TheVariants.{Discovery, Active}
use Rattle.model.specs.declared.Sampled.{Sampled}
use Rattle.model.specs.declared.Session.{Session}
use Rattle.model.specs.Session.{State, Answered, state, dimension_of, renewed, discovers, discover, activate, breed, breeds, is_active, past_discovery, adds_for, long_enough, room_for, evaluated, all_stand, accepted, sample_from_candidate, waiting_count}
use Rattle.model.specs.Plan.{plan_words}
use Rattle.model.specs.Refusal.{check, sample_refusal, bad_dimensions, bad_history}
use Rattle.model.specs.Calls.{SampleExit, sample_by, sample_of, settled}
use Rattle.model.specs.Property.{SessionOk}
use Rattle.session_laws.specs.Refused.{short_refusal}
use Rattle.session_laws.proofs.Request.{breeding, bred_checks-same, breeds_active, active_good, short-refusal}
use Rattle.session_laws.proofs.Steps.{short_ok, phase-ok}
use Rattle.session_laws.proofs.Sample.{discovery_phase}
use Rattle.session_steps.specs.Exits.{exit, Ready}
use Rattle.session_breeding.specs.Breeding.{Gatherable, BredExit, bred_exit, bred_to, breed_by}
use Rattle.session_active.specs.Exits.{refused_with}

module _ (st : State) (d : Distribution) (plan : ℕ) (history : List ℕ) where
  abbrev refusal : Option Refusal
  refusal = sample_refusal st d plan history

  -- refused, with all as it was
  pub leaves_refused : (n : Refusal) (u : Session) (after pool : List ℕ) (r : Sampled) → r ≡ refused_with n u → state u after st.plans st.next_dims pool ≡ st → refusal ≡ Some n
      → exit r after st.plans st.next_dims pool ≡ sample_of st d plan history
  unfolding sample_of
  leaves_refused n u after pool r h f e =
      ap (λ (x : Sampled). exit x after st.plans st.next_dims pool) h ∙ ap (λ (x : State). record { answer = (refused_with n u).outcome; after = x }) f
      ∙ ap (λ (o : Option Refusal). sample_by o st (accepted st d plan history)) (sym e)

  pub leaves_accepted : (x : SampleExit) (a : Answered) → x ≡ settled a → refusal ≡ None → a ≡ accepted st d plan history → x ≡ sample_of st d plan history
  unfolding sample_of
  leaves_accepted x a h e f = h ∙ ap settled f ∙ ap (λ (o : Option Refusal). sample_by o st (accepted st d plan history)) (sym e)

  -- answered by a candidate of the state that the call goes on from
  pub leaves_taken : (x : SampleExit) (y z : State) → x ≡ settled (sample_from_candidate y plan) → y ≡ z → refusal ≡ None
      → sample_from_candidate z plan ≡ accepted st d plan history → x ≡ sample_of st d plan history
  leaves_taken x y z h k e f = leaves_accepted x (sample_from_candidate z plan) (h ∙ ap (λ (w : State). settled (sample_from_candidate w plan)) k) e f

  -- ---- what an accepted call does

  pub adds-accepted : discovers st plan ≡ true → discover st d plan ≡ accepted st d plan history
  unfolding accepted
  adds-accepted adds = rw adds

  module _ (other : discovers st plan ≡ false) where
    pub first-accepted : is_active st.session ≡ false → sample_from_candidate (activate st) plan ≡ accepted st d plan history
    unfolding accepted
    first-accepted a = rw (other, a)

    pub active_accepted : is_active st.session ≡ true → breeds st history ≡ false → sample_from_candidate st plan ≡ accepted st d plan history
    unfolding accepted
    active_accepted a b = rw (other, a, b)

    pub bred-accepted : is_active st.session ≡ true → breeds st history ≡ true → sample_from_candidate (breed st history) plan ≡ accepted st d plan history
    unfolding accepted
    bred-accepted a b = rw (other, a, b)

  -- ---- a slice is too short

  pub short-bred : (n : Refusal) → breeds st history ≡ true → long_enough st ≡ false → bad_history history ≡ false
      → short_refusal (state st.session [] st.plans [] st.pool) history ≡ Some n → refusal ≡ Some n
  short-bred n b l few e = short-refusal st d plan history (active_good st d plan (breeds_active st history b)) few b l ∙ bred_checks-same st [] [] history (check why.Room true ∷ []) ∙ e

-- ---- tests of the state, as code makes them

-- the call adds a dimension
module _ (st : State) (plan : ℕ) where
  abbrev adds : Bool
  adds = adds_for st.session.phase st.session.discovery_trial_id plan

  pub adds-by : (b : Bool) → adds ≡ b → discovers st plan ≡ b
  unfolding discovers
  adds-by b e = e

  pub discovery_plans : SessionOk st → adds ≡ true → st.session.progress.n_plans ≡ 0
  discovery_plans ok e = (phase-ok st Discovery ok (discovery_phase st.session.phase (and_not_left (past_discovery st.session.phase) _ e))).no_plans

-- the generation is evaluated, and the call breeds
module _ (st : State) (history : List ℕ) where
  pub first_unbred : is_active st.session ≡ false → breeds st history ≡ false
  unfolding breeds
  first_unbred a = and_not (is_active st.session) _ a

  pub adds_unbred : (plan : ℕ) → adds_for st.session.phase st.session.discovery_trial_id plan ≡ true → breeds st history ≡ false
  adds_unbred plan e = first_unbred (and_not_left (is_active st.session) _ e)

  pub breeds-by : (r b : Bool) → is_active st.session ≡ true → waiting_count st * plan_words ≤ length st.pool
      → r ≡ all_stand history st.plans st.session.progress.n_plans st.session.config.population_size → r ≡ b → breeds st history ≡ b
  unfolding breeds evaluated
  breeds-by r b a w e f = past a (past (le-leb (waiting_count st * plan_words) (length st.pool) w) (sym e ∙ f))

  -- a pool too short to hold those that wait shows none of them
  pub breeds-not : length st.pool < waiting_count st * plan_words → breeds st history ≡ false
  unfolding breeds
  breeds-not h = and_no (is_active st.session) _ (and_not _ _ (lt-leb (waiting_count st * plan_words) (length st.pool) h))

module _ (st : State) where
  pub long-by : (b : Bool) → b ≡ room_for st.session.config (length st.candidates) (length st.plans) (length st.next_dims) (length st.pool) → long_enough st ≡ b
  unfolding long_enough
  long-by b e = sym e

  -- ---- the property

  none_lent : long_enough (state st.session [] [] [] []) ≡ false
  unfolding long_enough
  none_lent = refl

  -- where nothing is lent, the property asks nothing of the slices
  pub without_slices : SessionOk st → SessionOk (state st.session [] [] [] [])
  without_slices ok = short_ok st.session st.candidates st.plans st.next_dims st.pool [] [] [] [] ok none_lent

  -- a call that breeds can gather the plans that it breeds from
  pub gatherable : (history : List ℕ) → SessionOk (state st.session [] [] [] []) → breeds st history ≡ true → Gatherable st.session history st.plans st.pool
  gatherable history ok b =
      let e = breeding st history b in
      record { ok = ok; waits = e.pool; held = e.held; stand = e.stand }

  pub ready_active : SessionOk st → st.session.phase ≡ Active → Ready st.session
  ready_active ok e =
      let a = phase-ok st Active ok e in
      record { dims = ok.dimensions; some = a.some_dimension }

  -- ---- a new generation: it can be drawn from, and no plan of it has come

  renewed_ready : (u : Session) (g : ℕ) (ideal : List Float) (waits memory number : ℕ) → bad_dimensions (dimension_of st.session) st.session.progress.n_dims ≡ false
      → 1 ≤ st.session.progress.n_dims → u ≡ renewed st.session g ideal waits memory number → Ready u × (u.progress.n_plans ≡ 0)
  renewed_ready u g ideal waits memory number dims h e =
      (subst Ready (sym e) (record { dims = dims; some = h }), ap (λ (x : Session). x.progress.n_plans) e)

  pub ready_first : (u : Session) (after : List ℕ) → SessionOk st → 1 ≤ st.session.progress.n_dims → state u after st.plans st.next_dims st.pool ≡ activate st
      → Ready u × (u.progress.n_plans ≡ 0)
  unfolding activate
  ready_first u after ok h e = renewed_ready u _ _ _ _ _ ok.dimensions h (ap (λ (x : State). x.session) e)

  pub ready_bred : (history : List ℕ) (u : Session) (after pool : List ℕ) → Ready st.session → state u after st.plans st.next_dims pool ≡ breed st history
      → Ready u × (u.progress.n_plans ≡ 0)
  unfolding breed
  ready_bred history u after pool r e = renewed_ready u _ _ _ _ _ r.dims r.some (ap (λ (x : State). x.session) e)

-- what breeding's answer tells: its refusal, and the state after it
pub breed_tells : (st : State) (history : List ℕ) (o p q : Option Refusal) (x : State) → bred_exit q x ≡ breed_by o st history → q ≡ p → (o ≡ p) × (x ≡ bred_to p st history)
breed_tells st history o p q x e f =
    let h : o ≡ p = sym (ap (λ (b : BredExit). b.refusal) e) ∙ f in
    (h, ap (λ (b : BredExit). b.after) e ∙ ap (λ (z : Option Refusal). bred_to z st history) h)
