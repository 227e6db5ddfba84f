-- THEOREM (document 02, M-112, of sessions with a window): two calls that breed, from pools that differ only in the rows of infeasible plans, with a feasible split front
-- and equal remembered ideals before, select the same and leave equal remembered ideals.
use Prim.Native.Nat.{ℕ, ◌+◌, ◌*◌, ◌<◌, min}
use mathlib.Core.Path.{◌≡◌, refl, sym, ap, ap₂, subst, ◌∙◌}
use mathlib.Core.Bool.{true, false}
use mathlib.Core.List.{List, ◌++◌}
use Rattle.std.specs.Prelude.{Option, None, Some}
use lib.Ieee.{Float, lt}
use lib.ListN.{length, get_or, take}
use Rattle.list_laws.proofs.Best.{best_same}
use Rattle.list_laws.proofs.Bools.{and_fails}
use Rattle.list_laws.proofs.Built.{list_below-length, list_below-at, list_below-same, over-take}
use Rattle.list_laws.proofs.Rows.{row_lt}
use Rattle.model.specs.declared.Refusal.{Refusal}
use Rattle.model.specs.declared.Config.{Config}
use Rattle.model.specs.declared.Distribution.{Distribution}
use Rattle.model.specs.declared.Session.{Session}
use Rattle.model.specs.Lists.{best_from, list_below, over}
use Rattle.model.specs.Real.{real, infinity}
use Rattle.model.specs.Association.{Request, objectives, ideal_of}
use Rattle.model.specs.Kept.{Selected, selected}
use Rattle.model.specs.Setting.{generation}
use Rattle.model.specs.Window.{most_remembered, own_words, last_of, least_remembered, ideal_after}
use Rattle.model.specs.Session.{State, breeds, breed, request_of, operators_of, accepted, sample_from_candidate, memory_at, memory_in, memory_after, most_words, remembered_after, start_by, start_ideal}
use Rattle.model.specs.Refusal.{sample_refusal, bad_pool}
use Rattle.model.specs.Property.{SessionOk}
use Rattle.model.specs.Calls.{SampleExit, sample_by, sample_of, Samples}
use Rattle.demand3_laws.proofs.Passed.{sample_passed}
use Rattle.demand3_laws.proofs.Calls.{request-objectives, request-accepted}
use Rattle.session_laws.proofs.Request.{breeds_active, active_discovers}
use Rattle.session_laws.proofs.Steps.{Long, long, Untouched, sampled_leaves}
use Rattle.window_laws.proofs.Window.{memory_bred}
use Rattle.hopeless_laws.specs.Hopeless.{HopelessRows}
use Rattle.hopeless_laws.proofs.Hopeless.{hopeless, hopeless_own, hopeless_ideal}
use Rattle.hopeless_window_laws.specs.Pools.{SameMemory, HopelessPools, SameLeft}

-- ---- where a selection starts

-- the least of n generations that are remembered in a list of words
abbrev start_from : ℕ → ℕ → List ℕ → List Float
start_from m n words = list_below (λ j. best_from lt infinity (λ g. real (get_or words (g * m + j) 0)) n) m

module _ (s : Session) (pool : List ℕ) where
  abbrev m : ℕ
  m = s.config.n_obj

  abbrev n : ℕ
  n = s.progress.n_remembered

  word_in : (g j : ℕ) → g < n → j < m → get_or pool (memory_at s.config + (g * m + j)) 0 ≡ get_or (memory_in s pool) (g * m + j) 0
  word_in g j h l = sym (list_below-at (λ i. get_or pool (memory_at s.config + i) 0) (n * m) 0 (g * m + j) (row_lt g j n m h l))

  -- with a window it is the least of what is remembered, and of nothing else
  pub start_is : (w : ℕ) → s.config.window ≡ Some w → take m (start_ideal s pool) ≡ start_from m n (memory_in s pool)
  unfolding start_ideal
  start_is w e =
      ap (λ (o : Option ℕ). take m (start_by o s pool)) e
      ∙ over-take (list_below (least_remembered pool (memory_at s.config) m n) m) s.ideal_point m (list_below-length (least_remembered pool (memory_at s.config) m n) m)
      ∙ list_below-same (least_remembered pool (memory_at s.config) m n) (λ j. best_from lt infinity (λ g. real (get_or (memory_in s pool) (g * m + j) 0)) n) m
      (λ j l. best_same lt infinity _ _ n (λ g h. ap real (word_in g j h l)))

-- ---- the two breedings

module _ (w : ℕ) (st su : State) (history other : List ℕ) (h : HopelessPools w st su history other) (ok : SessionOk st) (pool : bad_pool (request_of st history) ≡ false) where
  abbrev r : Request
  r = request_of st history

  abbrev s : Request
  s = request_of su other

  window_su : su.session.config.window ≡ Some w
  window_su = ap (λ (c : Config). c.window) h.config ∙ h.window

  start-same : s.ideal ≡ r.ideal
  start-same =
      start_is su.session su.pool w window_su
      ∙ ap (λ (c : Config). start_from c.n_obj su.session.progress.n_remembered (memory_in su.session su.pool)) h.config
      ∙ ap₂ (λ (n : ℕ) (l : List ℕ). start_from st.session.config.n_obj n l) h.remembered.count h.remembered.words
      ∙ sym (start_is st.session st.pool w h.window)

  rows : HopelessRows r s
  rows = record {
    edition = h.edition;
    same_edition = ap (λ (c : Config). c.edition) h.config ∙ h.edition;
    directions = ap (λ (c : Config). take c.n_obj c.directions) h.config;
    lines = ap (λ (c : Config). c.divisions) h.config;
    state = h.generator;
    ideal = start-same;
    size = ap (λ (c : Config). c.population_size) h.config;
    count = h.count;
    constraints = h.constraints;
    rows = h.rows;
    split = h.split;
    feasible = h.feasible;
  }

  same-selection : selected r ≡ selected s
  same-selection = hopeless r s rows (request-accepted st history ok pool)

  memory_same : memory_after su.session su.pool s ≡ memory_after st.session st.pool r
  unfolding memory_after
  memory_same =
      ap (λ (c : Config). last_of (most_words c) (memory_in su.session su.pool ++ own_words s)) h.config
      ∙ ap₂ (λ (a b : List ℕ). last_of (most_words st.session.config) (a ++ b)) h.remembered.words (sym (hopeless_own r s rows (request-accepted st history ok pool)))

  count_same : remembered_after su.session ≡ remembered_after st.session
  count_same = ap₂ (λ (n : ℕ) (c : Config). min (n + 1) (most_remembered c.window)) h.remembered.count h.config

-- the ideal that a session with a window has once it bred
ideal-left : (w : ℕ) (st : State) (history : List ℕ) → SessionOk st → st.session.config.window ≡ Some w
    → take st.session.config.n_obj (breed st history).session.ideal_point ≡ list_below (ideal_of (request_of st history)) (objectives (request_of st history))
unfolding breed
ideal-left w st history ok e =
    let q = request_of st history in
    ap (λ (o : Option ℕ). take st.session.config.n_obj (over (ideal_after o q (generation (operators_of st.session) q).selection) st.session.ideal_point)) e
    ∙ over-take (list_below (ideal_of q) (objectives q)) st.session.ideal_point st.session.config.n_obj
    (list_below-length (ideal_of q) (objectives q) ∙ request-objectives st history ok)

-- ---- the calls

-- a call that breeds leaves what breeding left, but for the plan that it answers
call_leaves : (st : State) (d : Distribution) (plan : ℕ) (history : List ℕ) → breeds st history ≡ true → Untouched (breed st history) (accepted st d plan history).after
unfolding accepted
call_leaves st d plan history b =
    let a = breeds_active st history b in
    rw (active_discovers st plan a, a, b) (sampled_leaves (breed st history) plan)

exit_leaves : (st : State) (d : Distribution) (plan : ℕ) (history : List ℕ) (x : SampleExit) → Samples st d plan history x → sample_refusal st d plan history ≡ None → breeds st history ≡ true
    → Untouched (breed st history) x.after
unfolding sample_of
exit_leaves st d plan history x samples e b =
    let whole = samples.whole ∙ ap (λ (o : Option Refusal). sample_by o st (accepted st d plan history)) e in
    subst (λ (y : SampleExit). Untouched (breed st history) y.after) (sym whole) (call_leaves st d plan history b)

-- what is remembered, by what it depends on
abbrev memory_by : Config → ℕ → List ℕ → List ℕ
memory_by c k words = list_below (λ i. get_or words (memory_at c + i) 0) (k * c.n_obj)

untouched_memory : (st x : State) → Untouched st x → memory_in x.session x.pool ≡ memory_in st.session st.pool
untouched_memory st x u =
    ap (λ (c : Config). memory_by c x.session.progress.n_remembered x.pool) u.config
    ∙ ap₂ (λ (k : ℕ) (l : List ℕ). memory_by st.session.config k l) u.remembered u.pool

untouched_ideal : (st x : State) → Untouched st x → take x.session.config.n_obj x.session.ideal_point ≡ take st.session.config.n_obj st.session.ideal_point
untouched_ideal st x u = ap₂ (λ (c : Config) (l : List Float). take c.n_obj l) u.config u.ideal

module _ (w : ℕ) (st su : State) (history other : List ℕ) (h : HopelessPools w st su history other) (ok : SessionOk st) (also : SessionOk su)
    (d f : Distribution) (plan number : ℕ) (e : sample_refusal st d plan history ≡ None) (k : sample_refusal su f number other ≡ None)
    (b : breeds st history ≡ true) (c : breeds su other ≡ true) (x y : SampleExit) (first : Samples st d plan history x) (second : Samples su f number other y) where
  pool-good : bad_pool (request_of st history) ≡ false
  pool-good = and_fails (breeds st history) _ (sample_passed st d plan history e).pool b

  u_x : Untouched (breed st history) x.after
  u_x = exit_leaves st d plan history x first e b

  u_y : Untouched (breed su other) y.after
  u_y = exit_leaves su f number other y second k c

  count-x : x.after.session.progress.n_remembered ≡ remembered_after st.session
  unfolding breed
  count-x = u_x.remembered

  count-y : y.after.session.progress.n_remembered ≡ remembered_after su.session
  unfolding breed
  count-y = u_y.remembered

  words_left : memory_in y.after.session y.after.pool ≡ memory_in x.after.session x.after.pool
  words_left =
      untouched_memory (breed su other) y.after u_y
      ∙ memory_bred su other also (long su (sample_passed su f number other k).slices)
      ∙ memory_same w st su history other h ok pool-good
      ∙ sym (memory_bred st history ok (long st (sample_passed st d plan history e).slices))
      ∙ sym (untouched_memory (breed st history) x.after u_x)

  -- THE THEOREM
  pub hopeless_session : SameLeft st su history other x.after y.after
  unfolding breed
  hopeless_session = record {
    selection = sym (same-selection w st su history other h ok pool-good);
    ideal =
        untouched_ideal (breed su other) y.after u_y
        ∙ ideal-left w su other also (window_su w st su history other h ok pool-good)
        ∙ sym (hopeless_ideal (request_of st history) (request_of su other) (rows w st su history other h ok pool-good) (request-accepted st history ok pool-good))
        ∙ sym (ideal-left w st history ok h.window)
        ∙ sym (untouched_ideal (breed st history) x.after u_x);
    remembered = record { count = count-y ∙ count_same w st su history other h ok pool-good ∙ sym count-x; words = words_left };
  }
