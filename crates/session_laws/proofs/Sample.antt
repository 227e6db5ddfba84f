-- THE SESSION PROPERTY: every call keeps it, refused or not; and a setting that a call answers lies within its bounds.
use Prim.Native.Nat.{ℕ, ◌<◌}
use mathlib.Core.Path.{◌≡◌, refl, sym, ap, subst, ◌∙◌}
use mathlib.Core.Bool.{Bool, true, false, cond, not, ◌||◌, or-true, true≢false, false≢true}
use mathlib.Core.List.{List}
use Rattle.list_laws.proofs.Options.{some-ne-none}
use Rattle.std.specs.Prelude.{Option, None, Some, Ok}
use native.Mathlib.Nat.{le_refl}
use native.Mathlib.Omega.{arith}
use lib.ListN.{length}
use mir.Val.{Val}
use denote.Laws.{Is}
use denote.Struct.Declared as struct
use borrow.Author.Tests.{not-true}
use Rattle.list_laws.proofs.Bools.{and_left, and_both, and_fails, by_bool, by_cond, by_option}
use Rattle.demand3_laws.proofs.Passed.{sample_passed}
use Rattle.demand3_laws.proofs.Calls.{sample_demand3}
use Rattle.model.specs.declared.Refusal.{Refusal}
use Rattle.model.specs.declared.Distribution.{Distribution}
use Rattle.model.specs.declared.ParamValue.{ParamValue}
use Rattle.model.specs.declared.Phase.{Phase}
use Rattle.model.specs.declared.Phase.TheVariants.{Discovery, Active}
use Rattle.model.specs.Kept.{selected}
use Rattle.model.specs.Setting.{max_dims, valid_dimension, in_bounds, generation, words_of}
use Rattle.model.specs.Session.{State, Answered, dimension_of, is_active, past_discovery, discovers, breeds, breed, bred_by, request_of, operators_of, activate, discover, is_new, sample_from_candidate, accepted, asked, waiting_count, block_of}
use Rattle.model.specs.Refusal.{sample_refusal}
use Rattle.model.specs.Property.{SessionOk}
use Rattle.model.specs.Calls.{SampleExit, sample_by, sample_of, Bred, Samples, refused_by}
use Rattle.model.specs.contracts.Session as session
use Rattle.settings.proofs.InBounds.{Held, sampled_in_bounds}
use Rattle.settings.proofs.Valid.{few}
use Rattle.candidate_laws.proofs.Sound.{AllHeld}
use Rattle.typed_laws.proofs.Held.{session-dimensions, session-held}
use Rattle.session_laws.proofs.Request.{breeding, breeds_active, active_discovers, fit_dimension, room-left}
use Rattle.session_laws.proofs.Steps.{Long, long, long-enough, sampled_leaves, some_dimension_lem, phase-ok, discover-ok, activate-ok, renewed-long}
use Rattle.session_laws.proofs.Breed.{breed-ok, breed-kept, enough, pool-after-long, waiting_blocks}
use Rattle.session_laws.proofs.Bounds.{Ready, ready_ok, dimension_at, next_of, none_come, sample_from_candidate_in, first_in}

-- ---- the two phases

pub active_phase : (p : Phase) → past_discovery p ≡ true → p ≡ Active
active_phase Discovery e = absurd (false≢true e)
active_phase Active e = refl

pub discovery_phase : (p : Phase) → past_discovery p ≡ false → p ≡ Discovery
discovery_phase Discovery e = refl
discovery_phase Active e = absurd (true≢false e)

-- an answer tells the refusal, or that there is none
told : (o : Option Refusal) (st : State) (a : Answered) → refused_by (sample_by o st a).answer ≡ o
told None st a = refl
told (Some n) st a = refl

-- a setting is answered only where none applies, and is the accepted call's
answered_in : (d : Distribution) (o : Option Refusal) (st : State) (a : Answered) → (o ≡ None → in_bounds d a.setting ≡ true)
    → (v : ParamValue) → (sample_by o st a).answer ≡ Ok v → in_bounds d v ≡ true
answered_in d None st a h v e = let same : ◌≡◌ {A = ParamValue} a.setting v = cc in ap (in_bounds d) (sym same) ∙ h refl
answered_in d (Some n) st a h v e = absurd (some-ne-none n (ap refused_by e))

-- ---- an accepted call

-- beside the property, what types promise of code's parameters: numbers of the dimensions that the machine holds, and an array of `max_dims`
module _ (st : State) (d : Distribution) (plan : ℕ) (history : List ℕ) (ok : SessionOk st)
    (held : AllHeld (dimension_of st.session) st.session.progress.n_dims) (array : length st.session.dimensions ≡ max_dims) where
  -- the state that a plan is answered from, by whether the session is active and the call breeds
  abbrev answers_from : Bool → Bool → State
  answers_from active bred = cond active (cond bred (breed st history) st) (activate st)

  module _ (e : sample_refusal st d plan history ≡ None) where
    lengths : Long st
    lengths = long st (sample_passed st d plan history e).slices

    -- it may be given to `sample_from_candidate`
    first_ready : discovers st plan ≡ false → is_active st.session ≡ false → Ready (activate st) plan
    unfolding discovers activate
    first_ready h inactive =
        let first = discovery_phase st.session.phase inactive in
        let some = some_dimension_lem st plan ok first (and_fails (not (is_active st.session)) _ h (ap not inactive)) in
        record {
          ok = activate-ok st ok first some held;
          active = refl;
          long = renewed-long st _ (words_of _) st.pool refl (le_refl _) lengths;
          room = λ new. omega arith;
          held = held;
        }

    bred_ready : breeds st history ≡ true → Ready (breed st history) plan
    unfolding breed
    bred_ready h =
        let some = (phase-ok st Active ok (active_phase st.session.phase (breeds_active st history h))).some_dimension in
        let pool = and_fails (breeds st history) _ (sample_passed st d plan history e).pool h in
        let parents = and_fails (breeds st history) _ (sample_passed st d plan history e).parents h in
        record {
          ok = breed-ok st history ok (breeding st history h) pool parents (ok.lent (long-enough st lengths)) lengths.pool some held;
          active = refl;
          long = renewed-long st _ (words_of _) _ refl (pool-after-long st history (generation (operators_of st.session) (request_of st history)).selection.kept) lengths;
          room = λ new. omega arith;
          held = held;
        }

    on_ready : is_active st.session ≡ true → breeds st history ≡ false → Ready st plan
    on_ready a h = record {
      ok = ok;
      active = active_phase st.session.phase a;
      long = lengths;
      room = λ new. room-left _ _ (sample_passed st d plan history e).come (and_both _ _ new (ap not h));
      held = held;
    }

    -- a dimension that is added passed refusal 6
    added : discovers st plan ≡ true → (st.session.progress.n_dims < max_dims) × (valid_dimension d ≡ true)
    added h =
        let p = sample_passed st d plan history e in
        fit_dimension _ _ (and_fails (discovers st plan) _ p.dimension h) (and_fails (discovers st plan) _ p.step h)

    adds : discovers st plan ≡ true → SessionOk (discover st d plan).after
    unfolding discovers
    adds h =
        let good = added h in
        discover-ok st d plan ok (discovery_phase st.session.phase (not-true _ (and_left _ _ h))) good.0 good.1 array

    pub accepted-ok : SessionOk (accepted st d plan history).after
    unfolding accepted
    accepted-ok = by_cond (λ (x : Answered). SessionOk x.after) (discovers st plan) _ _ adds
        (λ h. by_cond (λ (x : State). SessionOk (sample_from_candidate x plan).after) (is_active st.session) _ _
        (λ a. by_cond (λ (x : State). SessionOk (sample_from_candidate x plan).after) (breeds st history) _ _
        (λ b. ready_ok (breed st history) plan (bred_ready b)) (λ b. ready_ok st plan (on_ready a b)))
        (λ a. ready_ok (activate st) plan (first_ready h a)))

    -- ---- its setting lies within its bounds

    adds_in : Held d → discovers st plan ≡ true → in_bounds d (discover st d plan).setting ≡ true
    unfolding discover
    adds_in fit h = sampled_in_bounds d st.session.rng.s fit (added h).1

    -- by whether the session is active and the call breeds
    abbrev At : Bool → Bool → Type 0
    At active bred = in_bounds (dimension_at st (next_of st plan (bred || is_new st plan))) (sample_from_candidate (answers_from active bred) plan).setting ≡ true

    bred_in : breeds st history ≡ true → At true true
    unfolding breed
    bred_in h = first_in (breed st history) plan (bred_ready h) refl

    first-plan_in : discovers st plan ≡ false → is_active st.session ≡ false → At false (breeds st history)
    unfolding activate
    first-plan_in h inactive =
        let new = none_come st plan (phase-ok st Discovery ok (discovery_phase st.session.phase inactive)).no_plans in
        subst (λ (b : Bool). in_bounds (dimension_at st (next_of st plan b)) (sample_from_candidate (activate st) plan).setting ≡ true)
        (sym (ap (λ (b : Bool). breeds st history || b) new ∙ or-true (breeds st history))) (first_in (activate st) plan (first_ready h inactive) refl)

    later_in : discovers st plan ≡ false → At (is_active st.session) (breeds st history)
    later_in h = by_bool (is_active st.session)
        (λ a. subst (λ (x : Bool). At x (breeds st history)) (sym a)
        (by_bool (breeds st history) (λ b. subst (At true) (sym b) (bred_in b)) (λ b. subst (At true) (sym b) (sample_from_candidate_in st plan (on_ready a b)))))
        (λ a. subst (λ (x : Bool). At x (breeds st history)) (sym a) (first-plan_in h a))

    -- by whether the call adds a dimension
    abbrev Adding : Bool → Type 0
    Adding b =
        in_bounds (cond b d (dimension_at st (next_of st plan (breeds st history || is_new st plan))))
        (cond b (discover st d plan) (sample_from_candidate (answers_from (is_active st.session) (breeds st history)) plan)).setting ≡ true

    pub accepted_in : Held d → in_bounds (asked st d plan history) (accepted st d plan history).setting ≡ true
    unfolding accepted asked
    accepted_in fit = by_bool (discovers st plan) (λ h. subst Adding (sym h) (adds_in fit h)) (λ h. subst Adding (sym h) (later_in h))

    -- ---- where it breeds, the state that it leaves is bred from the selection's kept list

    left-bred : breeds st history ≡ true → (sample_of st d plan history).after ≡ (sample_from_candidate (bred_by st history (selected (request_of st history)).kept) plan).after
    unfolding sample_of accepted
    left-bred b =
        let active = breeds_active st history b in
        let left : State → State = λ x. (sample_from_candidate x plan).after in
        ap (λ (o : Option Refusal). (sample_by o st (accepted st d plan history)).after) e
        ∙ ap (λ (c : Bool). (cond c (discover st d plan) (sample_from_candidate (answers_from (is_active st.session) (breeds st history)) plan)).after) (active_discovers st plan active)
        ∙ ap (λ (x : Bool). left (answers_from x (breeds st history))) active ∙ ap (λ (x : Bool). left (answers_from true x)) b ∙ ap left (breed-kept st history ok (breeding st history b))

    pub sample_bred : breeds st history ≡ true → Bred st plan history (sample_of st d plan history).after
    unfolding bred_by
    sample_bred b =
        let kept = (selected (request_of st history)).kept in
        let bred = bred_by st history kept in
        let count = ap (λ (x : State). waiting_count x) (left-bred b) ∙ (sampled_leaves bred plan).waits in
        record {
          kept = kept;
          demand3 = sample_demand3 st d plan history ok e b (enough st history ok (breeding st history b));
          from = left-bred b;
          count = count;
          waiting = λ i h. ap (λ (x : State). block_of x.pool i) (left-bred b) ∙ ap (λ (x : List ℕ). block_of x i) (sampled_leaves bred plan).pool
              ∙ waiting_blocks st history kept i (subst (λ (n : ℕ). i < n) count h);
        }

  -- THE THEOREM: refused or not, the field `keeps` of `Samples`
  pub sample_ok : SessionOk (sample_of st d plan history).after
  unfolding sample_of
  sample_ok = by_option (sample_refusal st d plan history) (λ e. rw e (accepted-ok e)) (λ n e. rw e ok)

  -- and its field `bounds`
  pub sample_in : Held d → (v : ParamValue) → (sample_of st d plan history).answer ≡ Ok v → in_bounds (asked st d plan history) v ≡ true
  unfolding sample_of
  sample_in fit = answered_in (asked st d plan history) (sample_refusal st d plan history) st (accepted st d plan history) (λ e. accepted_in e fit)

-- of a session and a dimension that code is given the types promise it: `sample` asks the property alone. `good` stands at `c.good` of the code's proof
module _ (st : State) (d : Distribution) (plan : ℕ) (history : List ℕ) (ok : SessionOk st) (vs : List Val) (good : Is (struct.row session.the_type) st.session vs) (fit : Held d) where
  given-held : AllHeld (dimension_of st.session) st.session.progress.n_dims
  given-held k l = session-held st.session vs good k (omega (arith, few _ _ ok.dimensions))

  array : length st.session.dimensions ≡ max_dims
  array = session-dimensions st.session vs good

  -- the whole promise of `sample`, of its definition, and of an exit that is the definition's
  defined : Samples st d plan history (sample_of st d plan history)
  unfolding sample_of
  defined = record {
    whole = refl;
    refused = told (sample_refusal st d plan history) st (accepted st d plan history);
    keeps = sample_ok st d plan history ok given-held array;
    demand3 = λ e b. sample_bred st d plan history ok given-held array e b;
    bounds = sample_in st d plan history ok given-held array fit;
  }

  pub samples : (x : SampleExit) → x ≡ sample_of st d plan history → Samples st d plan history x
  samples x e = subst (Samples st d plan history) (sym e) defined
