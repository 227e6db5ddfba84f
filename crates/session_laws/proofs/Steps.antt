-- Each step of a call keeps the session property, where its condition holds.
use Rattle.std.specs.Prelude.{Option, None, Some}
use Prim.Native.Nat.{ℕ, ◌+◌, ◌-◌, ◌*◌, ◌≤◌, ◌<◌, max}
use mathlib.Core.Path.{◌≡◌, refl, sym, ap, ◌∙◌, subst}
use mathlib.Core.Bool.{true, false, true≢false, not}
use mathlib.Core.List.{List, map}
use mathlib.Core.Logic.{◌⊎◌}
use native.Mathlib.Nat.{le_refl, le_trans, mul-le-mul}
use native.Mathlib.Omega.{arith}
use lib.Dec.{leb, ltb}
use lib.ListN.{length, get_or, set, take, length-set, drop}
use lib.Seq.{set_out, take-suc-set, length-sets}
use borrow.Author.Tests.{ltb-true, ltb-false, le-leb, leb-true, not-true, le-ltb}
use Rattle.list_laws.proofs.Bools.{and_left, and_right, and_both, by_cond, or_both}
use Rattle.list_laws.proofs.Members.{distinct_snoc, has-not}
use Rattle.model.specs.declared.Distribution.{Distribution}
use Rattle.model.specs.declared.Phase.{Phase}
use Rattle.model.specs.declared.Phase.TheVariants.{Discovery, Active}
use Rattle.model.specs.declared.Config.{Config}
use Rattle.model.specs.declared.Session.{Session}
use Rattle.model.specs.Edition.{waiting_of}
use Rattle.model.specs.declared.DimensionInfo.{DimensionInfo}
use Rattle.model.specs.Lists.{has, place_in, Distinct, over}
use Rattle.model.specs.Setting.{valid_dimension, sample_random, sample_all, to_word, words_of, no_dimension, max_dims, WordsWithin, sample_candidates}
use Rattle.model.specs.Session.{State, state, dimension_of, long_enough, max_come, max_words, discover, activate, overflow, enter, enlist, answer, plans_of, is_new, sample_from_candidate, discovers_for, with_rng, Answered, entered, renewed, pool_room, waiting_count}
use Rattle.model.specs.Window.{most_remembered}
use Rattle.model.specs.Refusal.{good_ideal, bad_dimensions}
use Rattle.model.specs.Property.{KnownBy, ConfigOk, ActiveOk, PhaseOk, WaitingOk, LentOk, SessionOk}
use lib.Ieee.{Float}
use native.Mathlib.Numerals.{add-one}
use Rattle.list_laws.proofs.Tests.{all_below-every}
use Rattle.settings.proofs.Valid.{few, each}
use Rattle.candidate_laws.proofs.Sound.{AllHeld}
use Rattle.candidate_laws.proofs.Sampled.{sample_all-sound, sample_candidates-sound}
use Rattle.candidate_laws.proofs.Words.{words-within, words-put}
use Rattle.list_laws.proofs.Built.{over-long}
use Rattle.list_laws.proofs.Below.{by_lt}
use Rattle.list_laws.proofs.Stores.{set_cases, set-each}
use Rattle.session_laws.proofs.Lists.{waiting_none, MemoryGood, memory_none, lent_none, lent_empty}

-- ---- the lengths of the lent slices

pub record Long (st : State) : Type 0 where
  pub words : max_words ≤ length st.candidates
  pub plans : max_come ≤ length st.plans
  pub next : max_come ≤ length st.next_dims
  pub pool : pool_room st.session.config ≤ length st.pool

pub long : (st : State) → long_enough st ≡ true → Long st
unfolding long_enough
long st e =
    let rest = and_right (leb max_words (length st.candidates)) _ e in
    let last = and_right (leb max_come (length st.plans)) _ rest in
    record {
      words = leb-true max_words _ (and_left _ _ e);
      plans = leb-true max_come _ (and_left _ _ rest);
      next = leb-true max_come _ (and_left _ _ last);
      pool = leb-true _ _ (and_right (leb max_come (length st.next_dims)) _ last);
    }

pub long-enough : (st : State) → Long st → long_enough st ≡ true
unfolding long_enough
long-enough st l =
    and_both _ _ (le-leb max_words _ l.words) (and_both _ _ (le-leb max_come _ l.plans) (and_both _ _ (le-leb max_come _ l.next) (le-leb _ _ l.pool)))

-- and stay so where words are put into the candidates and the pool
put-long : (st : State) (u : Session) (cs pool : List ℕ) → u.config ≡ st.session.config → length st.candidates ≤ length cs → length st.pool ≤ length pool
    → Long st → Long (state u cs st.plans st.next_dims pool)
put-long st u cs pool e h k l = record {
  words = le_trans l.words h;
  plans = l.plans;
  next = l.next;
  pool = subst (λ (c : Config). pool_room c ≤ length pool) (sym e) (le_trans l.pool k);
}

-- slices that are too short say nothing
pub short_ok : (s : Session) (cs ps ns pool cs' ps' ns' pool' : List ℕ) → SessionOk (state s cs ps ns pool) → long_enough (state s cs' ps' ns' pool') ≡ false
    → SessionOk (state s cs' ps' ns' pool')
short_ok s cs ps ns pool cs' ps' ns' pool' ok short = record {
  config = ok.config;
  dimensions = ok.dimensions;
  phase = ok.phase;
  waiting = ok.waiting;
  remembered = ok.remembered;
  ideal = ok.ideal;
  lent = λ long. absurd (true≢false (sym long ∙ short));
}

-- ---- discovery

pub phase-ok : (st : State) (p : Phase) → SessionOk st → st.session.phase ≡ p → PhaseOk p st.session
phase-ok st p ok e = subst (λ (q : Phase). PhaseOk q st.session) e ok.phase

-- a dimension more, where there are fewer than `max_dims` and it is valid
module _ (st : State) (d : Distribution) (plan : ℕ) (ok : SessionOk st) (discovery : st.session.phase ≡ Discovery)
    (few : st.session.progress.n_dims < max_dims) (valid : valid_dimension d ≡ true) (array : length st.session.dimensions ≡ max_dims) where
  dimensions-more : bad_dimensions (dimension_of (entered st.session d plan 0)) (st.session.progress.n_dims + 1) ≡ false
  unfolding bad_dimensions
  dimensions-more =
      or_both _ _ (le-ltb max_dims (st.session.progress.n_dims + 1) (omega arith))
      (ap not (all_below-every _ (st.session.progress.n_dims + 1)
      (set-each (λ k (x : DimensionInfo). valid_dimension x.distribution ≡ true) no_dimension st.session.dimensions st.session.progress.n_dims
      (record { distribution = d }) (omega arith) valid (each _ _ ok.dimensions))))

  pub discover-ok : SessionOk (discover st d plan).after
  unfolding discover
  discover-ok =
      let at = phase-ok st Discovery ok discovery in
      record {
        config = ok.config;
        dimensions = dimensions-more;
        phase = record { first = omega arith; no_candidates = at.no_candidates; no_plans = at.no_plans; no_waiting = at.no_waiting; none_remembered = at.none_remembered };
        waiting = ok.waiting;
        remembered = ok.remembered;
        ideal = ok.ideal;
        lent = λ e. lent_empty _ at.no_plans at.no_candidates at.no_waiting at.none_remembered;
      }

-- ---- the end of discovery

-- a plan that adds no dimension comes after one that did
known : (first : Option ℕ) (plan dims : ℕ) → discovers_for first plan ≡ false → KnownBy first dims → 1 ≤ dims
known None plan dims e k = absurd (true≢false e)
known (Some p) plan dims e k = k

pub some_dimension_lem : (st : State) (plan : ℕ) → SessionOk st → st.session.phase ≡ Discovery → discovers_for st.session.discovery_trial_id plan ≡ false
    → 1 ≤ st.session.progress.n_dims
some_dimension_lem st plan ok e f = known st.session.discovery_trial_id plan st.session.progress.n_dims f (phase-ok st Discovery ok e).first

-- a new generation, whose ideal is good and whose candidates lie within their bounds, for which the plans wait that its pool has at its front, and which
-- remembers what its pool has behind the plans' room
pub renewed-ok : (st : State) (g : ℕ) (ideal : List Float) (waits memory number : ℕ) (words pool : List ℕ) → SessionOk st → 1 ≤ st.session.progress.n_dims
    → good_ideal st.session.config.n_obj (take st.session.config.n_obj ideal) ≡ true
    → WordsWithin (dimension_of st.session) st.session.progress.n_dims st.session.config.population_size (over words st.candidates)
    → (waits ≡ 0) ⊎ (waits ≡ waiting_of st.session.config.edition st.session.config.population_size)
    → WaitingOk (state (renewed st.session g ideal waits memory number) (over words st.candidates) st.plans st.next_dims pool)
    → memory ≤ most_remembered st.session.config.window → MemoryGood (renewed st.session g ideal waits memory number) pool
    → SessionOk (state (renewed st.session g ideal waits memory number) (over words st.candidates) st.plans st.next_dims pool)
renewed-ok st g ideal waits memory number words pool ok some good settings many waiting few remembered = record {
  config = ok.config;
  dimensions = ok.dimensions;
  phase = record { some_dimension = some; candidates = omega arith; room = omega arith };
  waiting = many;
  remembered = few;
  ideal = good;
  lent = λ e. lent_none _ refl settings waiting remembered;
}

module _ (st : State) (ok : SessionOk st) (discovery : st.session.phase ≡ Discovery) (some : 1 ≤ st.session.progress.n_dims)
    (held : AllHeld (dimension_of st.session) st.session.progress.n_dims) where
  pub activate-ok : SessionOk (activate st)
  unfolding activate
  activate-ok =
      let cs = sample_candidates (dimension_of st.session) st.session.progress.n_dims st.session.config.population_size st.session.rng.s in
      renewed-ok st cs.state st.session.ideal_point st.session.progress.n_waiting st.session.progress.n_remembered st.session.progress.generation (words_of cs.value) st.pool ok some ok.ideal
      (words-within (dimension_of st.session) st.session.progress.n_dims st.session.config.population_size cs.value
      (sample_candidates-sound (dimension_of st.session) st.session.progress.n_dims held ok.dimensions st.session.config.population_size st.session.rng.s)
      (drop (length (words_of cs.value)) st.candidates))
      ok.waiting (waiting_none _ (phase-ok st Discovery ok discovery).no_waiting) ok.remembered
      (memory_none st.session st.pool (phase-ok st Discovery ok discovery).none_remembered)

pub renewed-long : (st : State) (u : Session) (words pool : List ℕ) → u.config ≡ st.session.config → length st.pool ≤ length pool → Long st
    → Long (state u (over words st.candidates) st.plans st.next_dims pool)
renewed-long st u words pool e h l = put-long st u _ pool e (over-long words st.candidates) h l

-- ---- a plan more

-- an active session with a candidate for one plan more
pub record Waiting (st : State) : Type 0 where
  pub config : ConfigOk st.session.config
  pub dimensions : bad_dimensions (dimension_of st.session) st.session.progress.n_dims ≡ false
  pub active : st.session.phase ≡ Active
  pub some_dimension : 1 ≤ st.session.progress.n_dims
  pub candidates : st.session.progress.n_candidates ≡ max st.session.config.population_size (st.session.progress.n_plans + 1)
  pub room : st.session.progress.n_plans < max_come
  pub waits : (waiting_count st ≡ 0) ⊎ (waiting_count st ≡ waiting_of st.session.config.edition st.session.config.population_size)
  pub remembered : st.session.progress.n_remembered ≤ most_remembered st.session.config.window
  pub ideal : good_ideal st.session.config.n_obj (take st.session.config.n_obj st.session.ideal_point) ≡ true
  pub lent : LentOk st
  pub long : Long st

overflow-long : (st : State) → Long st → Long (overflow st)
unfolding overflow
overflow-long st l =
    let e = length-sets st.candidates (st.session.progress.n_candidates * st.session.progress.n_dims)
    (map to_word (sample_all (dimension_of st.session) st.session.progress.n_dims st.session.rng.s).value) in
    put-long st _ _ st.pool refl (omega arith) (le_refl _) l

module _ (st : State) (ok : SessionOk st) (active : st.session.phase ≡ Active) (lengths : Long st) (room : st.session.progress.n_plans < max_come) where
  waiting : st.session.progress.n_plans < st.session.progress.n_candidates → Waiting st
  waiting more =
      let at = phase-ok st Active ok active in
      record {
        config = ok.config;
        dimensions = ok.dimensions;
        active = active;
        some_dimension = at.some_dimension;
        candidates = omega (arith, at.candidates);
        room = room;
        waits = ok.waiting;
        remembered = ok.remembered;
        ideal = ok.ideal;
        lent = ok.lent (long-enough st lengths);
        long = lengths;
      }

  -- where every candidate has its plan, one more is drawn
  overflow-waiting : st.session.progress.n_candidates ≤ st.session.progress.n_plans → AllHeld (dimension_of st.session) st.session.progress.n_dims
      → Waiting (overflow st)
  unfolding overflow
  overflow-waiting all held =
      let at = phase-ok st Active ok active in
      let lent = ok.lent (long-enough st lengths) in
      record {
        config = ok.config;
        dimensions = ok.dimensions;
        active = active;
        some_dimension = at.some_dimension;
        candidates = omega (arith, at.candidates);
        room = room;
        waits = ok.waiting;
        remembered = ok.remembered;
        ideal = ok.ideal;
        lent = record {
          different = lent.different;
          next = lent.next;
          settings = words-put (dimension_of st.session) st.session.progress.n_dims st.session.progress.n_candidates _ st.candidates
              (sample_all-sound (dimension_of st.session) st.session.progress.n_dims held ok.dimensions st.session.rng.s)
              lent.settings fits;
          waiting = record { different = lent.waiting.different; measured = lent.waiting.measured; breedable = lent.waiting.breedable };
          remembered = lent.remembered;
        };
        long = overflow-long st lengths;
      }
    where
      fits : (st.session.progress.n_candidates + 1) * st.session.progress.n_dims ≤ length st.candidates
      fits = le_trans (mul-le-mul {n₂ = max_come} (omega arith) (few _ _ ok.dimensions)) lengths.words

-- the numbers still differ where a new one is stored
entered-different : (l : List ℕ) (n plan : ℕ) → n < length l → has (take n l) plan ≡ false → Distinct (take n l) → Distinct (take (n + 1) (set l n plan))
entered-different l n plan room new h =
    subst Distinct (sym (ap (λ k. take k (set l n plan)) (add-one n) ∙ take-suc-set l n plan room)) (distinct_snoc (take n l) plan h (has-not (take n l) plan new))

enter-ok : (st : State) (plan : ℕ) → Waiting st → is_new st plan ≡ true → SessionOk (enter st plan)
unfolding enter
enter-ok st plan ready new =
    record {
      config = ready.config;
      dimensions = ready.dimensions;
      phase = subst (λ (p : Phase). PhaseOk p (enter st plan).session) (sym ready.active)
          (record { some_dimension = ready.some_dimension; candidates = ready.candidates; room = omega (arith, ready.room) });
      waiting = ready.waits;
      remembered = ready.remembered;
      ideal = ready.ideal;
      lent = λ e. record {
        different = entered-different st.plans st.session.progress.n_plans plan (omega (arith, ready.room, ready.long.plans)) (not-true _ new)
            ready.lent.different;
        next = set-each (λ k (x : ℕ). x ≤ st.session.progress.n_dims) 0 st.next_dims st.session.progress.n_plans 0
            (omega (arith, ready.room, ready.long.next)) (omega arith) ready.lent.next;
        settings = ready.lent.settings;
        waiting = record { different = ready.lent.waiting.different; measured = ready.lent.waiting.measured; breedable = ready.lent.waiting.breedable };
        remembered = ready.lent.remembered;
      };
    }

enter-long : (st : State) (plan : ℕ) → Long st → Long (enter st plan)
unfolding enter
enter-long st plan l =
    record {
      words = l.words;
      plans = omega (arith, length-set st.plans st.session.progress.n_plans plan, l.plans);
      next = omega (arith, length-set st.next_dims st.session.progress.n_plans 0, l.next);
      pool = l.pool;
    }

-- a new plan takes a candidate that stands, or one more is drawn for it
pub enlist-by : (P : State → Type 0) (st : State) (plan : ℕ) → (st.session.progress.n_plans < st.session.progress.n_candidates → P (enter st plan))
    → (st.session.progress.n_candidates ≤ st.session.progress.n_plans → P (enter (overflow st) plan)) → P (enlist st plan)
unfolding enlist
enlist-by P st plan next more = by_cond (λ (x : State). P (enter x plan)) (ltb st.session.progress.n_plans st.session.progress.n_candidates) st (overflow st)
    (λ e. next (ltb-true _ _ e)) (λ e. more (ltb-false _ _ e))

module _ (st : State) (ok : SessionOk st) (active : st.session.phase ≡ Active) (lengths : Long st) (room : st.session.progress.n_plans < max_come)
    (held : AllHeld (dimension_of st.session) st.session.progress.n_dims) (plan : ℕ) (new : is_new st plan ≡ true) where
  pub enlist-ok : SessionOk (enlist st plan)
  unfolding overflow
  enlist-ok = enlist-by SessionOk st plan
      (λ h. enter-ok st plan (waiting st ok active lengths room h) new)
      (λ h. enter-ok (overflow st) plan (overflow-waiting st ok active lengths room h held) new)

pub enlist-long : (st : State) (plan : ℕ) → Long st → Long (enlist st plan)
enlist-long st plan l = enlist-by Long st plan (λ h. enter-long st plan l) (λ h. enter-long (overflow st) plan (overflow-long st l))

pub enlist-phase : (st : State) (plan : ℕ) → (enlist st plan).session.phase ≡ st.session.phase
unfolding enter overflow
enlist-phase st plan = enlist-by (λ (x : State). x.session.phase ≡ st.session.phase) st plan (λ h. refl) (λ h. refl)

-- ---- a setting is answered

moved-next : (l : List ℕ) (i at d dims : ℕ) → d < dims → get_or l i 0 ≤ dims → get_or (set l at (d + 1)) i 0 ≤ dims
moved-next l i at d dims below h = by_lt at (length l)
    (λ v. set_cases (λ (x : ℕ). x ≤ dims) 0 l at i (d + 1) v (λ e. omega arith) (λ e. h))
    (λ v. omega (arith, ap (λ (x : List ℕ). get_or x i 0) (set_out l at (d + 1) v)))

module _ (st : State) (i : ℕ) (ok : SessionOk st) (active : st.session.phase ≡ Active) (lengths : Long st) where
  at_active : ActiveOk st.session
  at_active = phase-ok st Active ok active

  at-lent : LentOk st
  at-lent = ok.lent (long-enough st lengths)

  -- its candidate's, and the plan moves on by a dimension; beyond the last, a new draw
  pub answer_ok : SessionOk (answer st i).after
  unfolding answer
  answer_ok = by_cond (λ (x : Answered). SessionOk x.after) (ltb (get_or st.next_dims i 0) st.session.progress.n_dims) _ _
      (λ e. record {
        config = ok.config;
        dimensions = ok.dimensions;
        phase = ok.phase;
        waiting = ok.waiting;
        remembered = ok.remembered;
        ideal = ok.ideal;
        lent = λ _. record {
          different = at-lent.different;
          next = λ k l. moved-next st.next_dims k i (get_or st.next_dims i 0) st.session.progress.n_dims (ltb-true _ _ e) (at-lent.next k l);
          settings = at-lent.settings;
          waiting = record { different = at-lent.waiting.different; measured = at-lent.waiting.measured; breedable = at-lent.waiting.breedable };
          remembered = at-lent.remembered;
        };
      })
      (λ e. record {
        config = ok.config;
        dimensions = ok.dimensions;
        phase = subst (λ (p : Phase). PhaseOk p (with_rng st.session (sample_random (dimension_of st.session (st.session.progress.n_dims - 1)) st.session.rng.s).state))
            (sym active)
            (record { some_dimension = at_active.some_dimension; candidates = at_active.candidates; room = at_active.room });
        waiting = ok.waiting;
        remembered = ok.remembered;
        ideal = ok.ideal;
        lent = λ _. record {
          different = at-lent.different;
          next = at-lent.next;
          settings = at-lent.settings;
          waiting = record { different = at-lent.waiting.different; measured = at-lent.waiting.measured; breedable = at-lent.waiting.breedable };
          remembered = at-lent.remembered;
        };
      })

-- ---- `sample_from_candidate`

module _ (st : State) (plan : ℕ) (ok : SessionOk st) (active : st.session.phase ≡ Active) (lengths : Long st)
    (room : is_new st plan ≡ true → st.session.progress.n_plans < max_come) (held : AllHeld (dimension_of st.session) st.session.progress.n_dims) where
  pub sample_from_candidate-ok : SessionOk (sample_from_candidate st plan).after
  unfolding sample_from_candidate
  sample_from_candidate-ok = by_cond (λ (x : Answered). SessionOk x.after) (is_new st plan) _ _
      (λ new. answer_ok (enlist st plan) st.session.progress.n_plans (enlist-ok st ok active lengths (room new) held plan new) (enlist-phase st plan ∙ active)
      (enlist-long st plan lengths))
      (λ old. answer_ok st (place_in (plans_of st) plan) ok active lengths)

-- it leaves those that wait, the ideal and what is remembered as they are
pub record Untouched (st x : State) : Type 0 where
  pub config : x.session.config ≡ st.session.config
  pub waits : waiting_count x ≡ waiting_count st
  pub remembered : x.session.progress.n_remembered ≡ st.session.progress.n_remembered
  pub ideal : x.session.ideal_point ≡ st.session.ideal_point
  pub pool : x.pool ≡ st.pool

answer_leaves : (st : State) (i : ℕ) → Untouched st (answer st i).after
unfolding answer
answer_leaves st i =
    by_cond (λ (x : Answered). Untouched st x.after) (ltb (get_or st.next_dims i 0) st.session.progress.n_dims) _ _ (λ e. record { config = refl; waits = refl; remembered = refl; ideal = refl; pool = refl })
    (λ e. record { config = refl; waits = refl; remembered = refl; ideal = refl; pool = refl })

enlist_leaves : (st : State) (plan : ℕ) → Untouched st (enlist st plan)
unfolding enter overflow
enlist_leaves st plan = enlist-by (λ (x : State). Untouched st x) st plan (λ h. record { config = refl; waits = refl; remembered = refl; ideal = refl; pool = refl }) (λ h. record { config = refl; waits = refl; remembered = refl; ideal = refl; pool = refl })

pub sampled_leaves : (st : State) (plan : ℕ) → Untouched st (sample_from_candidate st plan).after
unfolding sample_from_candidate
sampled_leaves st plan =
    by_cond (λ (x : Answered). Untouched st x.after) (is_new st plan) _ _
    (λ new. let a = answer_leaves (enlist st plan) st.session.progress.n_plans in
    let b = enlist_leaves st plan in
    record { config = a.config ∙ b.config; waits = a.waits ∙ b.waits; remembered = a.remembered ∙ b.remembered; ideal = a.ideal ∙ b.ideal; pool = a.pool ∙ b.pool })
    (λ old. answer_leaves st (place_in (plans_of st) plan))
