-- The selection that a session's breeding makes, as code makes it: from the words bred from, and refused just where the session's call is.
use Prim.Native.Nat.{ℕ, ◌+◌, ◌*◌, ◌≤◌, ◌<◌}
use mathlib.Core.Path.{◌≡◌, refl, sym, ap, ap₂, subst, ◌∙◌}
use mathlib.Core.Bool.{Bool, true, false, not, ◌&&◌}
use mathlib.Core.List.{List, [], ◌∷◌, ◌++◌}
use mathlib.Core.Logic.{◌⊎◌, inl, inr, ⊎_elim}
use Rattle.std.specs.Prelude.{Option, None, Some}
use native.Mathlib.Nat.{le_trans, le-add_right, mul-le-mul}
use native.Mathlib.Omega.{arith}
use lib.Dec.{eqb, leb}
use lib.ListN.{length, take}
use lib.Seq.{length-take-le}
use borrow.Author.Tests.{le-ltb, lt-leb, leb-true, leb-false, ne_eqb, not-false}
use Rattle.list_laws.proofs.Bools.{by_bool, and_left, and_right, and_both, and_fails_first, and_not, and_no, or_left, or_right, or_both}
use Rattle.list_laws.proofs.Built.{list_below_none}
use Rattle.list_laws.proofs.Tests.{all_below-each}
use Rattle.list_laws.proofs.Checks.{passed_over, applies-first, after_two}
use Rattle.session_pool_laws.proofs.Blocks.{joined-count, joined_numbers, take_numbers}
use Rattle.session_pool_laws.proofs.Children.{comers_of, comers-few, comers-all, children-count, children_numbers, joined-distinct}
use Rattle.model.specs.declared.Refusal.{Refusal}
use Rattle.model.specs.declared.Refusal.TheVariants as why
use Rattle.model.specs.declared.Distribution.{Distribution}
use Rattle.model.specs.declared.Edition.{Edition}
use Rattle.model.specs.declared.Session.{Session}
use Rattle.model.specs.Association.{objectives}
use Rattle.model.specs.declared.Edition.TheVariants.{First, Second}
use Rattle.model.specs.Edition.{most_plans, waiting_of}
use Rattle.model.specs.Lists.{all_below, Distinct}
use Rattle.model.specs.Plan.{plan_words, plan_count}
use Rattle.model.specs.Setting.{valid_dimension, max_dims}
use Rattle.model.specs.Session.{State, state, is_active, discovers, long_enough, bred_from, breeds, request_of, operators_of, is_new, max_come, max_words, evaluated, stands_in, plans_of, numbers_of, children_of, waiting_count, plan_room, pool_room, dimension_of}
use Rattle.model.specs.Refusal.{Check, check, first_of, Room, no_room, no_step_room, bad_size, bad_divisions, bad_dimensions, bad_count, bad_pool, bad_parents, step_refusal, sample_refusal, max_size, max_pool, bad_history, bad_next, bad_next_step}
use Rattle.model.specs.Property.{ConfigOk, SessionOk}
use Rattle.settings.proofs.Valid.{few, valid_both, bounds-good, steps_good}
use Rattle.session_laws.specs.Refused.{request_from, word_refusal, bred_checks, breed_refusal, short_refusal}

-- ---- what a call that breeds tells: the pool holds the plans that wait, and the first plans of the generation have come, and stand in history

pub record Breeding (st : State) (history : List ℕ) : Type 0 where
  pub active : is_active st.session ≡ true
  pub pool : waiting_count st * plan_words ≤ length st.pool
  pub come : st.session.config.population_size ≤ st.session.progress.n_plans
  pub held : st.session.config.population_size ≤ length st.plans
  pub stand : all_below (stands_in history st.plans) st.session.config.population_size ≡ true

pub breeding : (st : State) (history : List ℕ) → breeds st history ≡ true → Breeding st history
unfolding breeds evaluated
breeding st history e =
    let size = st.session.config.population_size in
    let rest = and_right (is_active st.session) _ e in
    let all = and_right (leb (waiting_count st * plan_words) (length st.pool)) _ rest in
    let there = and_right (leb size st.session.progress.n_plans) _ all in
    record {
      active = and_left _ _ e;
      pool = leb-true _ _ (and_left _ _ rest);
      come = leb-true _ _ (and_left _ _ all);
      held = leb-true _ _ (and_left _ _ there);
      stand = and_right (leb size (length st.plans)) _ there;
    }

-- ---- how many plans are bred from

-- the numbers of the children that do not wait
abbrev pub comers : State → List ℕ
comers st = comers_of (numbers_of st.pool (waiting_count st)) st.plans st.session.config.population_size

module _ (st : State) (history : List ℕ) (waits : waiting_count st * plan_words ≤ length st.pool) where
  abbrev front : List ℕ
  front = take (waiting_count st * plan_words) st.pool

  abbrev children : List ℕ
  children = children_of (numbers_of st.pool (waiting_count st)) history st.plans st.session.config.population_size

  -- those that wait, and the children behind them
  pub front_length : length front ≡ waiting_count st * plan_words
  front_length = length-take-le (waiting_count st * plan_words) st.pool waits

  pub bred-count : plan_count (bred_from st history) ≡ waiting_count st + length (comers st)
  unfolding bred_from
  bred-count =
      joined-count front children (waiting_count st) front_length
      ∙ ap (λ (k : ℕ). waiting_count st + k) (children-count (numbers_of st.pool (waiting_count st)) history st.plans st.session.config.population_size)

  -- their numbers differ, where those that wait differ and those of the generation do
  pub bred-distinct : st.session.config.population_size ≤ st.session.progress.n_plans → st.session.config.population_size ≤ length st.plans
      → all_below (stands_in history st.plans) st.session.config.population_size ≡ true → Distinct (numbers_of st.pool (waiting_count st)) → Distinct (plans_of st)
      → Distinct (numbers_of (bred_from st history) (plan_count (bred_from st history)))
  unfolding bred_from
  bred-distinct come held stand wait differ =
      let size = st.session.config.population_size in
      let w = numbers_of st.pool (waiting_count st) in
      let e =
      ap (numbers_of (front ++ children)) bred-count ∙ joined_numbers front children (waiting_count st) front_length (length (comers st))
      ∙ ap₂ ◌++◌ (take_numbers st.pool (waiting_count st))
      (children_numbers w history st.plans size (all_below-each (stands_in history st.plans) size stand)) in
      subst Distinct (sym e) (joined-distinct w st.plans size st.session.progress.n_plans come held wait differ)

-- by edition: nobody waits, or as many as the size; and in either a pool holds those that wait and as many again
pub waits-by : (e : Edition) (size : ℕ) → (waiting_of e size ≡ 0) ⊎ (waiting_of e size ≡ size)
waits-by First size = inl refl
waits-by Second size = inr refl

most-by : (e : Edition) (size : ℕ) → size ≤ max_size → waiting_of e size + size ≤ most_plans e
most-by First size h = omega arith
most-by Second size h = omega arith

waits-few : (e : Edition) (size : ℕ) → waiting_of e size ≤ size
waits-few e size = ⊎_elim (λ h. omega arith) (λ h. omega arith) (waits-by e size)

module _ (st : State) (ok : SessionOk st) where
  abbrev wanted : ℕ
  wanted = st.session.config.population_size

  -- nobody waits, or as many as the size
  waits_or : (waiting_count st ≡ 0) ⊎ (waiting_count st ≡ wanted)
  waits_or = ⊎_elim inl (λ e. ⊎_elim (λ h. inl (e ∙ h)) (λ h. inr (e ∙ h)) (waits-by st.session.config.edition wanted)) ok.waiting

  pub waits-most : waiting_count st ≤ waiting_of st.session.config.edition wanted
  waits-most = ⊎_elim (λ h. omega arith) (λ h. omega arith) ok.waiting

  pub waits-size : waiting_count st ≤ wanted
  waits-size = omega (arith, waits-most, waits-few st.session.config.edition wanted)

  -- so a pool as long as refusal 10 asks holds them
  pub waits-held : pool_room st.session.config ≤ length st.pool → waiting_count st * plan_words ≤ length st.pool
  waits-held h = let plans : plan_room st.session.config.edition wanted ≤ length st.pool = le_trans (le-add_right _ _) h in omega (arith, waits-most)

  -- a call that breeds does so from at least as many plans as the size, and from no more than the edition takes
  module _ (history : List ℕ) (waits : waiting_count st * plan_words ≤ length st.pool) where
    pub bred-enough : wanted ≤ plan_count (bred_from st history)
    bred-enough =
        let e = bred-count st history waits in
        ⊎_elim
        (λ h. let all : length (comers st) ≡ wanted =
        ap (λ (w : List ℕ). length (comers_of w st.plans wanted)) (ap (numbers_of st.pool) h ∙ list_below_none _) ∙ comers-all st.plans wanted in omega arith)
        (λ h. omega arith)
        waits_or

    pub bred-few : plan_count (bred_from st history) ≤ most_plans st.session.config.edition
    bred-few =
        omega (
          arith,
          bred-count st history waits,
          comers-few (numbers_of st.pool (waiting_count st)) st.plans wanted,
          waits-most,
          most-by st.session.config.edition wanted ok.config.at_most,
        )

-- no other slice than those of the plans' numbers and of the pool matters to what is left of its refusals
pub bred_checks-same : (st : State) (candidates next_dims history : List ℕ) (cs : List Check)
    → first_of (bred_checks st history cs) ≡ first_of (bred_checks (state st.session candidates st.plans next_dims st.pool) history cs)
unfolding bred_from
bred_checks-same st candidates next_dims history cs = refl

-- ---- a call that breeds is past discovery

pub breeds_active : (st : State) (history : List ℕ) → breeds st history ≡ true → is_active st.session ≡ true
unfolding breeds
breeds_active st history e = and_left _ _ e

pub active_discovers : (st : State) (plan : ℕ) → is_active st.session ≡ true → discovers st plan ≡ false
unfolding discovers
active_discovers st plan e = rw e

-- neither 6 nor 12 applies to a call, of the dimension that it passes
abbrev pub Fit : State → Distribution → ℕ → Type 0
Fit st d plan = ((discovers st plan && bad_next st.session.progress.n_dims d) ≡ false) × ((discovers st plan && bad_next_step d) ≡ false)

-- so it is with one past discovery
pub active_good : (st : State) (d : Distribution) (plan : ℕ) → is_active st.session ≡ true → Fit st d plan
active_good st d plan e = (and_not _ _ (active_discovers st plan e), and_not _ _ (active_discovers st plan e))

-- ---- a session's seven checks

-- a dimension that neither 6 nor 12 applies to
pub fit_dimension : (n : ℕ) (d : Distribution) → bad_next n d ≡ false → bad_next_step d ≡ false → (n < max_dims) × (valid_dimension d ≡ true)
fit_dimension n d e f = (leb-false max_dims n (or_left _ _ e), valid_both d (not-false _ (or_right (leb max_dims n) _ e)) (not-false _ f))

-- fewer plans than there may be have come, where one more is asked for and 11 does not apply
pub room-left : (n : ℕ) (b : Bool) → (leb max_come n && b) ≡ false → b ≡ true → n < max_come
room-left n b e h = leb-false max_come n (and_fails_first _ _ e h)

module _ (st : State) (d : Distribution) (plan : ℕ) (history : List ℕ) where
  abbrev refusal : Option Refusal
  refusal = sample_refusal st d plan history

  abbrev bad : Bool
  bad = bad_next st.session.progress.n_dims d

  abbrev many : Bool
  many = leb max_come st.session.progress.n_plans

  abbrev full : Check
  full = check why.Generation (many && (is_new st plan && not (breeds st history)))

  abbrev last : List Check
  last = check why.Room (not (long_enough st)) ∷ full ∷ []

  pub refused_6 : discovers st plan ≡ true → bad ≡ true → refusal ≡ Some why.Bounds
  unfolding sample_refusal
  refused_6 a e = applies-first _ _ (and_both _ _ a e)

  pub refused_12 : (discovers st plan && bad) ≡ false → discovers st plan ≡ true → bad_next_step d ≡ true → refusal ≡ Some why.Steps
  unfolding sample_refusal
  refused_12 good a e = passed_over _ _ good ∙ applies-first _ _ (and_both _ _ a e)

  module _ (good : Fit st d plan) where
    pub refused_7 : bad_history history ≡ true → refusal ≡ Some why.Count
    unfolding sample_refusal
    refused_7 h = passed_over _ _ good.0 ∙ passed_over _ _ good.1 ∙ applies-first _ _ h

    module _ (few : bad_history history ≡ false) where
      past_7 : refusal ≡ first_of (check why.Values (breeds st history && bad_pool (request_of st history))
          ∷ check why.Parents (breeds st history && bad_parents (operators_of st.session) (request_of st history)) ∷ last)
      unfolding sample_refusal
      past_7 = passed_over _ _ good.0 ∙ passed_over _ _ good.1 ∙ passed_over _ _ few

      -- a call that breeds is refused by 8 or 9, and after them by 10 where a slice is too short
      module _ (b : breeds st history ≡ true) where
        bred-left : (cs : List Check) → first_of last ≡ first_of cs → refusal ≡ first_of (bred_checks st history cs)
        bred-left cs e =
            past_7
            ∙ ap (λ (x : Bool). first_of (check why.Values (x && bad_pool (request_of st history)) ∷ check why.Parents (x && bad_parents (operators_of st.session) (request_of st history)) ∷ last)) b
            ∙ after_two _ _ last cs e

        pub breed-refusal : long_enough st ≡ true → refusal ≡ breed_refusal st history
        breed-refusal l = bred-left [] (passed_over _ _ (ap not l) ∙ passed_over _ _ (and_no many _ (and_no (is_new st plan) _ (ap not b))))

        pub short-refusal : long_enough st ≡ false → refusal ≡ short_refusal st history
        short-refusal l = bred-left (check why.Room true ∷ []) (applies-first _ _ (ap not l) ∙ sym (applies-first _ _ refl))

      -- one that does not, by 10 or 11
      module _ (b : breeds st history ≡ false) where
        unbred_left : refusal ≡ first_of last
        unbred_left = past_7 ∙ passed_over _ _ (and_not _ _ b) ∙ passed_over _ _ (and_not _ _ b)

        pub refused_10 : long_enough st ≡ false → refusal ≡ Some why.Room
        refused_10 l = unbred_left ∙ applies-first _ _ (ap not l)

        full-left : long_enough st ≡ true → refusal ≡ first_of (full ∷ [])
        full-left l = unbred_left ∙ passed_over _ _ (ap not l)

        pub refused_11 : long_enough st ≡ true → (many && is_new st plan) ≡ true → refusal ≡ Some why.Generation
        refused_11 l h = full-left l ∙ applies-first full [] (and_both _ _ (and_left many _ h) (and_both _ _ (and_right many _ h) (ap not b)))

        pub not-refused : long_enough st ≡ true → (is_new st plan ≡ true → st.session.progress.n_plans < max_come) → refusal ≡ None
        unfolding first_of
        not-refused l h =
            full-left l
            ∙ passed_over full [] (by_bool (is_new st plan) (λ e. and_not many _ (lt-leb max_come _ (h e))) (λ e. and_no many _ (and_not (is_new st plan) _ e)))

-- ---- refusals of the generation step that a session makes, from as many plans as it may have

pub most-within : (e : Edition) → most_plans e ≤ max_pool
most-within First = omega arith
most-within Second = omega arith

module _ (s : Session) (words : List ℕ) (config : ConfigOk s.config) (dims : bad_dimensions (dimension_of s) s.progress.n_dims ≡ false) where
  abbrev size : ℕ
  size = s.config.population_size

  abbrev count : ℕ
  count = plan_count words

  -- of its objectives and divisions
  pub words-objectives : objectives (request_from s words) ≡ s.config.n_obj
  words-objectives = length-take-le s.config.n_obj s.config.directions config.objectives

  pub words-divisions : bad_divisions (objectives (request_from s words)) s.config.divisions ≡ false
  words-divisions = rw words-objectives config.divisions

  request-size : bad_size size ≡ false
  request-size = or_both _ _ (ne_eqb size 0 (λ e. omega (arith, config.at_least4))) (le-ltb max_size size config.at_most)

  -- the words of a generation's candidates
  pub offspring_fit : size * s.progress.n_dims ≤ max_words
  offspring_fit = omega (arith, mul-le-mul config.at_most (few _ _ dims))

  module _ (enough : size ≤ count) (most : count ≤ most_plans s.config.edition) where
    few-plans : count ≤ max_pool
    few-plans = le_trans most (most-within s.config.edition)

    request-count : bad_count s.config.edition count ≡ false
    request-count = or_both _ _ (ne_eqb count 0 (λ e. omega (arith, config.at_least4))) (le-ltb _ count most)

    -- what the room has to be: for a kept list of any size and its rules, for the fronts and lines of any pool, and `max_words` words for the offspring
    module _ (room : Room) (offspring : ℕ) (kept : max_size ≤ room.kept) (rules : max_size ≤ room.rules) (fronts : max_pool ≤ room.fronts)
        (lines : max_pool ≤ room.lines) (fit : max_words ≤ offspring) where
      request-room : no_step_room (operators_of s) (request_from s words) room offspring ≡ false
      unfolding no_step_room no_room
      request-room =
          or_both _ _
          (and_no (leb 2 count) _ (or_both _ _ (le-ltb room.kept _ (le_trans config.at_most kept))
          (or_both _ _ (le-ltb room.rules _ (le_trans config.at_most rules))
          (or_both _ _ (le-ltb room.fronts _ (le_trans few-plans fronts)) (le-ltb room.lines _ (le_trans few-plans lines))))))
          (le-ltb offspring _ (le_trans offspring_fit fit))

      -- the step is refused by 8 or 9, or not at all
      pub step-refusal : step_refusal (operators_of s) (request_from s words) room offspring ≡ word_refusal s words
      unfolding step_refusal
      step-refusal =
          passed_over _ _ config.directions ∙ passed_over _ _ request-size ∙ passed_over _ _ words-divisions
          ∙ passed_over _ _ config.operators ∙ passed_over _ _ (bounds-good _ _ dims) ∙ passed_over _ _ (steps_good _ _ dims) ∙ passed_over _ _ request-count
          ∙ after_two _ _ _ _ (passed_over _ _ request-room)
