-- A setting that a plan is answered is of its next dimension's kind and within its bounds, whatever a state with the session property holds.
use Prim.Native.Nat.{ℕ, ◌-◌, ◌≤◌, ◌<◌, min}
use mathlib.Core.Path.{◌≡◌, refl, sym, ap, subst, ◌∙◌}
use mathlib.Core.Bool.{Bool, true, false, cond, not, ◌||◌}
use native.Mathlib.Nat.{min-eq_left, min-eq_right}
use native.Mathlib.Omega.{arith}
use lib.Dec.{ltb}
use lib.ListN.{length, get_or, take, length-take}
use lib.Seq.{get_or-set_same}
use borrow.Author.Tests.{ltb-true, ltb-false, not-false}
use Rattle.list_laws.proofs.Bools.{by_bool, by_cond}
use Rattle.list_laws.proofs.Members.{has_nil, has-place}
use Rattle.model.specs.declared.Distribution.{Distribution}
use Rattle.model.specs.declared.Phase.TheVariants.{Active}
use Rattle.model.specs.Lists.{has, place_in}
use Rattle.model.specs.Setting.{in_bounds, sample_random, stored_at}
use Rattle.model.specs.Session.{State, Answered, dimension_of, max_come, overflow, enter, enlist, answer, plans_of, is_new, sample_from_candidate}
use Rattle.model.specs.Property.{SessionOk}
use Rattle.settings.proofs.InBounds.{sampled_in_bounds}
use Rattle.settings.proofs.Valid.{each}
use Rattle.candidate_laws.proofs.Sound.{AllHeld}
use Rattle.session_laws.proofs.Steps.{Long, long-enough, phase-ok, enlist-by, enlist-ok, enlist-phase, enlist-long, sample_from_candidate-ok}

-- the dimension of a plan whose next one is d: beyond the last it is the last
abbrev pub dimension_at : State → ℕ → Distribution
dimension_at st d = dimension_of st.session (min d (st.session.progress.n_dims - 1))

-- a state that `sample_from_candidate` may be given: it has the property, is past discovery, and has room for the plan where it is new
pub record Ready (st : State) (plan : ℕ) : Type 0 where
  pub ok : SessionOk st
  pub active : st.session.phase ≡ Active
  pub long : Long st
  pub room : is_new st plan ≡ true → st.session.progress.n_plans < max_come
  pub held : AllHeld (dimension_of st.session) st.session.progress.n_dims

pub ready_ok : (st : State) (plan : ℕ) → Ready st plan → SessionOk (sample_from_candidate st plan).after
ready_ok st plan r = sample_from_candidate-ok st plan r.ok r.active r.long r.room r.held

-- ---- its candidate's setting, or a new draw

module _ (st : State) (i : ℕ) (ok : SessionOk st) (active : st.session.phase ≡ Active) (lengths : Long st)
    (held : AllHeld (dimension_of st.session) st.session.progress.n_dims) (its : i < st.session.progress.n_candidates) where
  abbrev dims : ℕ → Distribution
  dims = dimension_of st.session

  abbrev count : ℕ
  count = st.session.progress.n_dims

  abbrev next : ℕ
  next = get_or st.next_dims i 0

  stored_in : next < count → in_bounds (dimension_at st next) (stored_at dims count st.candidates i next) ≡ true
  stored_in l =
      subst (λ (k : ℕ). in_bounds (dims k) (stored_at dims count st.candidates i next) ≡ true) (sym (min-eq_left (omega arith)))
      ((ok.lent (long-enough st lengths)).settings i next its l)

  fresh_in : count ≤ next → in_bounds (dimension_at st next) (sample_random (dims (count - 1)) st.session.rng.s).value ≡ true
  fresh_in l =
      let last : count - 1 < count = omega (arith, (phase-ok st Active ok active).some_dimension) in
      subst (λ (k : ℕ). in_bounds (dims k) (sample_random (dims (count - 1)) st.session.rng.s).value ≡ true) (sym (min-eq_right (omega arith)))
      (sampled_in_bounds (dims (count - 1)) st.session.rng.s (held (count - 1) last) (each dims count ok.dimensions (count - 1) last))

  answer_in : in_bounds (dimension_at st next) (answer st i).setting ≡ true
  unfolding answer
  answer_in =
      by_cond (λ (x : Answered). in_bounds (dimension_at st next) x.setting ≡ true) (ltb next count) _ _ (λ e. stored_in (ltb-true next count e))
      (λ e. fresh_in (ltb-false next count e))

-- ---- a new plan starts at the first dimension

module _ (st : State) (plan : ℕ) (r : Ready st plan) (new : is_new st plan ≡ true) where
  abbrev come : ℕ
  come = st.session.progress.n_plans

  first_next : dimension_at (enlist st plan) (get_or (enlist st plan).next_dims come 0) ≡ dimension_at st 0
  unfolding enter overflow
  first_next =
      let e = ap (dimension_at st) (get_or-set_same st.next_dims come 0 0 (omega (arith, r.room new, r.long.next))) in
      enlist-by (λ (x : State). dimension_at x (get_or x.next_dims come 0) ≡ dimension_at st 0) st plan (λ h. e) (λ h. e)

  has_candidate : come < (enlist st plan).session.progress.n_candidates
  unfolding enter overflow
  has_candidate = enlist-by (λ (x : State). come < x.session.progress.n_candidates) st plan (λ h. h)
      (λ h. omega (arith, (phase-ok st Active r.ok r.active).candidates))

  still_held : AllHeld (dimension_of (enlist st plan).session) (enlist st plan).session.progress.n_dims
  unfolding enter overflow
  still_held = enlist-by (λ (x : State). AllHeld (dimension_of x.session) x.session.progress.n_dims) st plan (λ h. r.held) (λ h. r.held)

  new_in : in_bounds (dimension_at st 0) (answer (enlist st plan) come).setting ≡ true
  new_in =
      ap (λ (d : Distribution). in_bounds d (answer (enlist st plan) come).setting) (sym first_next)
      ∙ answer_in (enlist st plan) come (enlist-ok st r.ok r.active r.long (r.room new) r.held plan new) (enlist-phase st plan ∙ r.active)
      (enlist-long st plan r.long) still_held has_candidate

-- where no plan has come, every plan is new
pub none_come : (st : State) (plan : ℕ) → st.session.progress.n_plans ≡ 0 → is_new st plan ≡ true
none_come st plan none = ap not (ap (λ (n : ℕ). has (take n st.plans) plan) none ∙ has_nil plan)

-- ---- a plan that came before has its candidate

old_place : (st : State) (plan : ℕ) → is_new st plan ≡ false → place_in (plans_of st) plan < st.session.progress.n_plans
old_place st plan old =
    let l = ltb-true (place_in (plans_of st) plan) (length (plans_of st)) (sym (has-place (plans_of st) plan) ∙ not-false (has (plans_of st) plan) old) in
    omega (arith, l, length-take st.session.progress.n_plans st.plans)

old_in : (st : State) (plan : ℕ) → Ready st plan → is_new st plan ≡ false
    → in_bounds (dimension_at st (get_or st.next_dims (place_in (plans_of st) plan) 0)) (answer st (place_in (plans_of st) plan)).setting ≡ true
old_in st plan r old = answer_in st (place_in (plans_of st) plan) r.ok r.active r.long r.held
    (omega (arith, old_place st plan old, (phase-ok st Active r.ok r.active).candidates))

-- ---- `sample_from_candidate`

-- the dimension that a plan asks for next: of a new one the first
abbrev pub next_of : State → ℕ → Bool → ℕ
next_of st plan new = cond new 0 (get_or st.next_dims (place_in (plans_of st) plan) 0)

module _ (st : State) (plan : ℕ) (r : Ready st plan) where
  -- by whether the plan is new
  abbrev By : Bool → Type 0
  By new = in_bounds (dimension_at st (next_of st plan new)) (cond new (answer (enlist st plan) st.session.progress.n_plans) (answer st (place_in (plans_of st) plan))).setting ≡ true

  pub sample_from_candidate_in : in_bounds (dimension_at st (next_of st plan (is_new st plan))) (sample_from_candidate st plan).setting ≡ true
  unfolding sample_from_candidate
  sample_from_candidate_in = by_bool (is_new st plan) (λ e. subst By (sym e) (new_in st plan r e)) (λ e. subst By (sym e) (old_in st plan r e))

  -- before any plan has come it is the first
  pub first_in : st.session.progress.n_plans ≡ 0 → in_bounds (dimension_at st 0) (sample_from_candidate st plan).setting ≡ true
  first_in none = subst (λ (b : Bool). in_bounds (dimension_at st (next_of st plan b)) (sample_from_candidate st plan).setting ≡ true) (none_come st plan none) sample_from_candidate_in
