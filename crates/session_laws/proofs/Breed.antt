-- Breeding keeps the session property: the ideal that it leaves is good, the offspring lie within their bounds, the plans that wait afterwards have different
-- numbers and pass 8 and 9, as all plans bred from do, and what is remembered passes 8.
use Prim.Native.Nat.{ℕ, ◌+◌, ◌*◌, ◌≤◌, ◌<◌}
use mathlib.Core.Path.{◌≡◌, refl, ap, ap₂, sym, subst, ◌∙◌}
use mathlib.Core.Bool.{Bool, true, false}
use mathlib.Core.List.{List, ◌++◌}
use mathlib.Core.Logic.{inr, ⊎_elim}
use native.Mathlib.Omega.{arith}
use borrow.Author.Tests.{not-false}
use lib.ListN.{length, get_or, take, drop}
use lib.Seq.{length-sets}
use Rattle.model.specs.Lists.{over, In, Distinct, all_below, all_in}
use Rattle.model.specs.Real.{real}
use Rattle.model.specs.Edition.{waiting_of}
use Rattle.model.specs.Plan.{Plan, plan_at, plan_count, plan_words, max_objectives}
use Rattle.model.specs.Window.{ideal_after}
use Rattle.model.specs.Association.{Request, objectives}
use Rattle.model.specs.Kept.{Selected, selected}
use Rattle.model.specs.Demand3.{Demand3}
use Rattle.model.specs.Setting.{Generation, generation, generation_of, words_of}
use Rattle.model.specs.Session.{State, state, dimension_of, bred_session, breed, bred_by, bred_from, request_of, operators_of, kept_words, pool_after, ideal_left, waiting_count, block_of, numbers_of, pool_room, memory_at, memory_after}
use Rattle.model.specs.Refusal.{good_entry, good_ideal, good_plan, good_plans, breedable, bad_pool, bad_parents}
use Rattle.model.specs.Property.{WaitingOk, LentOk, SessionOk}
use Rattle.list_laws.proofs.Built.{over-take, over-long}
use Rattle.list_laws.proofs.Checks.{good-ideal-length, pool-plans}
use Rattle.list_laws.proofs.Members.{get_d_in}
use Rattle.demand3_laws.proofs.Passed.{some-objectives}
use Rattle.demand3_laws.proofs.Accepted.{demand3}
use Rattle.demand3_laws.proofs.Calls.{generation-many, generation_selects, request-objectives, request-accepted}
use Rattle.candidate_laws.proofs.Sound.{AllHeld}
use Rattle.candidate_laws.proofs.Generations.{generation-words}
use Rattle.session_pool_laws.proofs.Kept.{kept-length, kept_block, kept_test, kept-distinct}
use Rattle.session_laws.proofs.Lists.{waiting_none, MemoryGood}
use Rattle.session_laws.proofs.Window.{sets_behind, memory_stands, after-fits, after-good, own-passes, after-ideal}
use Rattle.session_laws.proofs.Request.{Breeding, bred-enough, bred-distinct, waits-by}
use Rattle.session_laws.proofs.Steps.{renewed-ok}

-- the pool's slice does not become shorter
pub pool-after-long : (st : State) (history kept : List ℕ) → length st.pool ≤ length (pool_after st history kept)
pool-after-long st history kept =
    let bred = bred_from st history in
    let words = kept_words bred kept (waiting_of st.session.config.edition st.session.config.population_size) in
    omega (
      arith,
      over-long bred st.pool,
      over-long words (over bred st.pool),
      length-sets (over words (over bred st.pool)) (memory_at st.session.config) (memory_after st.session st.pool (request_of st history)),
    )

-- the kept plans' words stand at its front, with anything behind them
module _ (st : State) (history kept : List ℕ) where
  abbrev some : ℕ
  some = waiting_of st.session.config.edition st.session.config.population_size

  abbrev kept_front : List ℕ
  kept_front = kept_words (bred_from st history) kept some

  abbrev behind : List ℕ
  behind = drop (length kept_front) (pool_after st history kept)

  pub pool-front : pool_after st history kept ≡ kept_front ++ behind
  pool-front =
      sets_behind kept_front (drop (length kept_front) (over (bred_from st history) st.pool)) (memory_after st.session st.pool (request_of st history)) (memory_at st.session.config)
      (omega (arith, kept-length (bred_from st history) kept some))

-- and what waits in it are the pool's plans at the kept places, word for word
pub waiting_blocks : (st : State) (history kept : List ℕ) (i : ℕ) → i < waiting_of st.session.config.edition st.session.config.population_size
    → block_of (pool_after st history kept) i ≡ block_of (bred_from st history) (get_or kept i 0)
waiting_blocks st history kept i h =
    ap (λ (x : List ℕ). block_of x i) (pool-front st history kept)
    ∙ kept_block (bred_from st history) kept (waiting_of st.session.config.edition st.session.config.population_size) (behind st history kept) i h

module _ (st : State) (history : List ℕ) (ok : SessionOk st) (b : Breeding st history) where
  abbrev request : Request
  request = request_of st history

  pub enough : request.size ≤ request.count
  enough = bred-enough st ok history b.pool

  two : 2 ≤ request.count
  two = omega (arith, enough, ok.config.at_least4)

  -- it is from the selection's kept list, as a session's size is above one plan
  pub breed-kept : breed st history ≡ bred_by st history (selected request).kept
  unfolding breed bred_by generation_of
  breed-kept =
      let s = st.session in
      ap (λ (g : Generation). state (bred_session s g.state (ideal_left st history g.selection)) (over (words_of g.offspring) st.candidates) st.plans st.next_dims
      (pool_after st history g.selection.kept))
      (generation-many (operators_of s) request two)

  selects : (generation (operators_of st.session) request).selection ≡ selected request
  selects = generation_selects (operators_of st.session) request two

  -- 8 does not apply to the pool bred from
  module _ (pool : bad_pool request ≡ false) where
    -- so the ideal that it leaves is good, and it is put in front
    breed-ideal : good_ideal st.session.config.n_obj (take st.session.config.n_obj (breed st history).session.ideal_point) ≡ true
    unfolding breed
    breed-ideal =
        let m = st.session.config.n_obj in
        let sel = (generation (operators_of st.session) request).selection in
        let ideal = ideal_after st.session.config.window request sel in
        let good : good_ideal m ideal ≡ true =
        ap (λ (k : ℕ). good_ideal k ideal) (sym (request-objectives st history ok))
        ∙ after-ideal st.session.config.window request (request-accepted st history ok pool) sel selects in
        ap (good_ideal m) (over-take ideal st.session.ideal_point m (good-ideal-length m ideal good)) ∙ good

    -- the kept list meets demand 3
    abbrev kept : List ℕ
    kept = (generation (operators_of st.session) request).selection.kept

    listed : Demand3 request kept
    listed = subst (λ (s : Selected). Demand3 request s.kept) (sym selects) (demand3 request (request-accepted st history ok pool) enough)

    -- nor does 9 apply to the plans
    module _ (parents : bad_parents (operators_of st.session) request ≡ false) (lent : LentOk st) where
      abbrev waits : ℕ
      waits = waiting_of st.session.config.edition st.session.config.population_size

      -- so as many as the size wait
      breed-waiting : waits ≡ st.session.config.population_size → WaitingOk (breed st history)
      unfolding breed bad_parents
      breed-waiting e =
          let bred = bred_from st history in
          let rest = behind st history kept in
          let front = sym (pool-front st history kept) in
          let within : (i : ℕ) → i < waits → get_or kept i 0 < request.count = λ i h. listed.in_pool (get_or kept i 0) (get_d_in kept i (omega (arith, listed.exactly))) in
          record {
            different = subst (λ (x : List ℕ). Distinct (numbers_of x waits)) front (kept-distinct bred kept waits rest request.count (listed.exactly ∙ sym e) listed.distinct listed.in_pool
                (bred-distinct st history b.pool b.come b.held b.stand lent.waiting.different lent.different));
            measured = subst (λ (x : List ℕ). good_plans st.session.config.n_obj (plan_at x) waits ≡ true) front (kept_test bred kept waits rest (good_plan st.session.config.n_obj) request.count within
                (ap (λ (m : ℕ). good_plans m request.plans request.count) (sym (request-objectives st history ok)) ∙ pool-plans request pool));
            breedable = subst (λ (x : List ℕ). all_below (λ p. breedable (dimension_of st.session) st.session.progress.n_dims (plan_at x p)) waits ≡ true) front (kept_test bred kept waits rest (breedable (dimension_of st.session) st.session.progress.n_dims) request.count within (not-false _ parents));
          }

      -- and what is remembered passes 8, where the pool's slice is as long as it is to be
      few-objectives : objectives request ≤ max_objectives
      few-objectives = (some-objectives request.marks (request-accepted st history ok pool).directions).1

      breed_memory : pool_room st.session.config ≤ length st.pool → MemoryGood (breed st history).session (breed st history).pool
      unfolding breed
      breed_memory long =
          let bred = bred_from st history in
          let q = over (kept_words bred kept waits) (over bred st.pool) in
          let same = request-objectives st history ok in
          ap (λ (x : List ℕ). all_in (λ w. good_entry (real w)) x)
          (memory_stands st.session st.pool request same q
          (omega (arith, long, after-fits st.session st.pool request same, over-long bred st.pool, over-long (kept_words bred kept waits) (over bred st.pool))))
          ∙ after-good st.session st.pool request same lent.remembered
          (own-passes request (λ p j. get_or bred (p * plan_words + j) 0) (λ p. refl) few-objectives pool)

      module _ (long : pool_room st.session.config ≤ length st.pool) (some : 1 ≤ st.session.progress.n_dims) (held : AllHeld (dimension_of st.session) st.session.progress.n_dims) where
        pub breed-ok : SessionOk (breed st history)
        unfolding breed
        breed-ok =
            let g = generation (operators_of st.session) request in
            renewed-ok st g.state _ _ _ _ (words_of g.offspring) (pool_after st history g.selection.kept) ok some breed-ideal
            (generation-words (operators_of st.session) request held ok.dimensions parents st.candidates) (inr refl)
            (⊎_elim (λ e. waiting_none _ e) breed-waiting (waits-by st.session.config.edition st.session.config.population_size))
            (omega arith) (breed_memory long)
