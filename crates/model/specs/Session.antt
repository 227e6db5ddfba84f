-- Document 01, "Session": the state, what opening answers, and what an accepted call does.
use Rattle.std.specs.Prelude.{ℕ, ◌+◌, ◌-◌, ◌*◌, ◌%◌, ◌^◌, min, Bool, true, false, cond, not, ◌&&◌, ◌||◌, List, [], ◌++◌, map, eqb, leb, ltb, Float, length, get_or, set, take, replicate, Option, None, Some}
use Rattle.std.proofs.lemmas.List.Edits.{sets}
use Rattle.model.specs.declared.ParamValue.{ParamValue}
use Rattle.model.specs.declared.Distribution.{Distribution}
use Rattle.model.specs.declared.Distribution.TheVariants as dist
use Rattle.model.specs.declared.DimensionInfo.{DimensionInfo}
use Rattle.model.specs.declared.Edition.{Edition}
use Rattle.model.specs.declared.Edition.TheVariants.{First}
use Rattle.model.specs.declared.Phase.{Phase}
use Rattle.model.specs.declared.Phase.TheVariants.{Discovery, Active}
use Rattle.model.specs.declared.Config.{Config}
use Rattle.model.specs.declared.Progress.{Progress}
use Rattle.model.specs.declared.Session.{Session}
use Rattle.model.specs.Edition.{waiting_of}
use Rattle.model.specs.Lists.{all_below, last_below, list_below, join_below, has, place_in, over}
use Rattle.model.specs.Real.{nought, infinity}
use Rattle.model.specs.Plan.{plan_at, plan_count, plan_words, max_objectives}
use Rattle.model.specs.Reference.{divisions_of, population_size_of}
use Rattle.model.specs.Association.{Request}
use Rattle.model.specs.Kept.{Selected, selected}
use Rattle.model.specs.Window.{most_remembered, own_words, last_of, least_remembered, ideal_after}
use Rattle.model.specs.Setting.{to_word, max_dims, dimensions_of, stored_at, sample_random, sample_all, sample_candidates, Operators, operators, born_of, generation, words_of}

-- ---- the state

-- What a session call is given and leaves: the session by value, and what the four lent slices hold. `plans` has the numbers of the generation's plans in the
-- order in which they came, `next_dims` the dimension that each asks for next, and `candidates` the candidates' settings, candidate after candidate, a word
-- each. Plan i has candidate i. `pool` has at its front the words of the plans that wait (document 02, M-100); past them it is room for those bred from, and
-- behind this room stands what a session with a window remembers (M-109): "kept without going back through old plans".
pub record State : Type 0 where
  pub session : Session
  pub candidates : List ℕ
  pub plans : List ℕ
  pub next_dims : List ℕ
  pub pool : List ℕ

-- what the lent slices have to have room for: the 2,048 plans that may come in a generation, of `max_dims` settings each; the most plans that a session of an
-- edition and a size breeds from; and the own parts that a window remembers, a word an objective
abbrev pub max_come : ℕ
max_come = 2048

abbrev pub max_words : ℕ
max_words = max_come * max_dims

abbrev pub plan_room : Edition → ℕ → ℕ
plan_room edition size = (waiting_of edition size + size) * plan_words

abbrev pub most_words : Config → ℕ
most_words c = most_remembered c.window * c.n_obj

abbrev pub pool_room : Config → ℕ
pool_room c = plan_room c.edition c.population_size + most_words c

-- what the array of dimensions holds where none is entered
abbrev pub blank_dimension : DimensionInfo
blank_dimension = record { distribution = dist.Categorical (record { n_choices = 1 }) }

-- dimension d of a session
abbrev pub dimension_of : Session → ℕ → Distribution
dimension_of s = dimensions_of s.dimensions

-- a session with another generator state, with another ideal, and with another progress
abbrev pub with_rng : Session → ℕ → Session
with_rng s g = record {
  config = s.config;
  phase = s.phase;
  discovery_trial_id = s.discovery_trial_id;
  rng = record { s = g };
  dimensions = s.dimensions;
  ideal_point = s.ideal_point;
  progress = s.progress;
}

abbrev pub with_ideal : Session → List Float → Session
with_ideal s ideal = record {
  config = s.config;
  phase = s.phase;
  discovery_trial_id = s.discovery_trial_id;
  rng = s.rng;
  dimensions = s.dimensions;
  ideal_point = ideal;
  progress = s.progress;
}

abbrev pub with_progress : Session → Progress → Session
with_progress s p = record {
  config = s.config;
  phase = s.phase;
  discovery_trial_id = s.discovery_trial_id;
  rng = s.rng;
  dimensions = s.dimensions;
  ideal_point = s.ideal_point;
  progress = p;
}

abbrev pub progress : ℕ → ℕ → ℕ → ℕ → ℕ → ℕ → Progress
progress dims candidates plans waiting remembered gen =
    record { n_dims = dims; n_candidates = candidates; n_plans = plans; n_waiting = waiting; n_remembered = remembered; generation = gen }

abbrev pub state : Session → List ℕ → List ℕ → List ℕ → List ℕ → State
state s cs ps ns pool = record { session = s; candidates = cs; plans = ps; next_dims = ns; pool = pool }

-- a session in which no plan has come yet, of a configuration and a seed
abbrev pub start : Config → ℕ → Session
start c seed = record {
  config = c;
  phase = Discovery;
  discovery_trial_id = None;
  rng = record { s = seed };
  dimensions = replicate max_dims blank_dimension;
  ideal_point = replicate max_objectives infinity;
  progress = progress 0 0 0 0 0 0;
}

-- a session with a dimension more, entered for a plan, by its generator
abbrev pub entered : Session → Distribution → ℕ → ℕ → Session
entered s d plan g = record {
  config = s.config;
  phase = Discovery;
  discovery_trial_id = Some plan;
  rng = record { s = g };
  dimensions = set s.dimensions s.progress.n_dims (record { distribution = d });
  ideal_point = s.ideal_point;
  progress = progress (s.progress.n_dims + 1) s.progress.n_candidates s.progress.n_plans s.progress.n_waiting s.progress.n_remembered s.progress.generation;
}

-- the session of a new generation, by its generator, its ideal, the numbers of plans that wait and of generations that are remembered, and its own number: it has
-- as many candidates as the size, and no plan has come yet
abbrev pub renewed : Session → ℕ → List Float → ℕ → ℕ → ℕ → Session
renewed s g ideal waiting remembered number = record {
  config = s.config;
  phase = Active;
  discovery_trial_id = s.discovery_trial_id;
  rng = record { s = g };
  dimensions = s.dimensions;
  ideal_point = ideal;
  progress = progress s.progress.n_dims s.config.population_size 0 waiting remembered number;
}

-- how many generations are remembered once one more is bred from
abbrev pub remembered_after : Session → ℕ
remembered_after s = min (s.progress.n_remembered + 1) (most_remembered s.config.window)

-- the session after breeding: the kept plans wait where the edition has it so, and the generation's number wraps at 2^64
abbrev pub bred_session : Session → ℕ → List Float → Session
bred_session s g ideal =
    renewed s g ideal (waiting_of s.config.edition s.config.population_size) (remembered_after s) ((s.progress.generation + 1) % 2 ^ 64)

-- ---- opening

-- The session that an accepted opening answers. "Directions are given at opening (added), with the seed." Document 02, M-100: "A session is opened as edition 1
-- (today's) or edition 2". M-109: "A session may be opened with a window of w generations."
unfoldable pub opened : Edition → List ℕ → ℕ → Option ℕ → Option ℕ → Float → Float → Float → Option ℕ → Session
opened edition marks seed size divisions probability crossover_eta_of mutation_eta_of window = start (record {
  edition = edition;
  n_obj = length marks;
  directions = over marks (replicate max_objectives 0);
  divisions = divisions_of (length marks) size divisions;
  population_size = population_size_of (length marks) size divisions;
  crossover_prob = probability;
  crossover_eta = crossover_eta_of;
  mutation_eta = mutation_eta_of;
  window = window;
}) seed

-- the session beside a refusal: nothing of what was given is in it. It is the smallest that could be opened, so that it has the session property too.
abbrev pub blank : Session
blank = start (record {
  edition = First;
  n_obj = 1;
  directions = replicate max_objectives 0;
  divisions = 1;
  population_size = 4;
  crossover_prob = nought;
  crossover_eta = nought;
  mutation_eta = nought;
  window = None;
}) 0

-- ---- an accepted call

-- what it answers, and the state that it leaves
pub record Answered : Type 0 where
  pub setting : ParamValue
  pub after : State

-- "The first plan's calls add dimensions": the dimension is entered, and a setting drawn from it
unfoldable pub discover : State → Distribution → ℕ → Answered
discover st d plan =
    let s = st.session in
    let v = sample_random d s.rng.s in
    record { setting = v.value; after = state (entered s d plan v.state) st.candidates st.plans st.next_dims st.pool }

-- "another plan number ends discovery": as many candidates as the size are drawn
unfoldable pub activate : State → State
activate st =
    let s = st.session in
    let cs = sample_candidates (dimension_of s) s.progress.n_dims s.config.population_size s.rng.s in
    let active = renewed s cs.state s.ideal_point s.progress.n_waiting s.progress.n_remembered s.progress.generation in
    state active (over (words_of cs.value) st.candidates) st.plans st.next_dims st.pool

-- a candidate more, drawn, where every candidate has its plan: its words are stored behind those of the others
unfoldable pub overflow : State → State
overflow st =
    let s = st.session in
    let n = s.progress.n_dims in
    let k = s.progress.n_candidates in
    let c = sample_all (dimension_of s) n s.rng.s in
    let more = progress n (k + 1) s.progress.n_plans s.progress.n_waiting s.progress.n_remembered s.progress.generation in
    state (with_progress (with_rng s c.state) more) (sets st.candidates (k * n) (map to_word c.value)) st.plans st.next_dims st.pool

-- the plan is entered as the generation's next, at its first dimension
unfoldable pub enter : State → ℕ → State
enter st plan =
    let s = st.session in
    let i = s.progress.n_plans in
    let more = progress s.progress.n_dims s.progress.n_candidates (i + 1) s.progress.n_waiting s.progress.n_remembered s.progress.generation in
    state (with_progress s more) st.candidates (set st.plans i plan) (set st.next_dims i 0) st.pool

-- a new plan takes the next candidate
unfoldable pub enlist : State → ℕ → State
enlist st plan = enter (cond (ltb st.session.progress.n_plans st.session.progress.n_candidates) st (overflow st)) plan

-- Plan i is answered its candidate's setting at its next dimension. "Beyond the last dimension, `sample_random` of the last one."
unfoldable pub answer : State → ℕ → Answered
answer st i =
    let s = st.session in
    let n = s.progress.n_dims in
    let d = get_or st.next_dims i 0 in
    let stored = stored_at (dimension_of s) n st.candidates i d in
    let fresh = sample_random (dimension_of s (n - 1)) s.rng.s in
    cond (ltb d n)
    (record { setting = stored; after = state s st.candidates st.plans (set st.next_dims i (d + 1)) st.pool })
    (record { setting = fresh.value; after = state (with_rng s fresh.state) st.candidates st.plans st.next_dims st.pool })

-- the numbers of the generation's plans; a number is new where it is not among them
abbrev pub plans_of : State → List ℕ
plans_of st = take st.session.progress.n_plans st.plans

abbrev pub is_new : State → ℕ → Bool
is_new st plan = not (has (plans_of st) plan)

-- `sample_from_candidate`
unfoldable pub sample_from_candidate : State → ℕ → Answered
sample_from_candidate st plan =
    cond (is_new st plan) (answer (enlist st plan) st.session.progress.n_plans) (answer st (place_in (plans_of st) plan))

-- ---- breeding

-- "the last record of a number counts": its place in the history, or the number of records where it has none
unfoldable pub record_of : List ℕ → ℕ → ℕ
record_of history plan = last_below (λ k. eqb (plan_at history k).number plan) (plan_count history)

-- plan i of a list of numbers stands in history
abbrev pub stands_in : List ℕ → List ℕ → ℕ → Bool
stands_in history plans i = ltb (record_of history (get_or plans i 0)) (plan_count history)

-- "When the first size plans of the generation all stand in history", of `come` plans, whose numbers a list has; one that is too short to hold them shows
-- none of them
abbrev pub all_stand : List ℕ → List ℕ → ℕ → ℕ → Bool
all_stand history plans come size = leb size come && (leb size (length plans) && all_below (stands_in history plans) size)

unfoldable pub evaluated : State → List ℕ → Bool
evaluated st history = all_stand history st.plans st.session.progress.n_plans st.session.config.population_size

-- the words of a plan of a slice
abbrev pub block_of : List ℕ → ℕ → List ℕ
block_of words k = list_below (λ j. get_or words (k * plan_words + j) 0) plan_words

-- the numbers of the first n plans of a slice, and how many plans wait
abbrev pub numbers_of : List ℕ → ℕ → List ℕ
numbers_of pool n = list_below (λ i. (plan_at pool i).number) n

abbrev pub waiting_count : State → ℕ
waiting_count st = st.session.progress.n_waiting

-- Plan i of a list of numbers, as history has it. M-100: "A child whose number a waiting plan already has is left out of that pool."
abbrev pub child_of : List ℕ → List ℕ → List ℕ → ℕ → List ℕ
child_of waiting history plans i = cond (has waiting (get_or plans i 0)) [] (block_of history (record_of history (get_or plans i 0)))

-- so many plans of a list of numbers, record after record
abbrev pub children_of : List ℕ → List ℕ → List ℕ → ℕ → List ℕ
children_of waiting history plans size = join_below (child_of waiting history plans) size

-- the plans bred from: the waiting plans "come first in its pool, in the kept list's order; the children follow", the first size plans of the generation
unfoldable pub bred_from : State → List ℕ → List ℕ
bred_from st history =
    take (waiting_count st * plan_words) st.pool
    ++ children_of (numbers_of st.pool (waiting_count st)) history st.plans st.session.config.population_size

-- ---- the window

-- where what is remembered begins, and its words
abbrev pub memory_at : Config → ℕ
memory_at c = plan_room c.edition c.population_size

abbrev pub memory_in : Session → List ℕ → List ℕ
memory_in s pool = list_below (λ i. get_or pool (memory_at s.config + i) 0) (s.progress.n_remembered * s.config.n_obj)

-- the ideal that a selection starts from, at the front of the session's: the least over the generations remembered, infinity where there is none. Without a
-- window it is the session's.
abbrev pub start_by : Option ℕ → Session → List ℕ → List Float
start_by None s pool = s.ideal_point
start_by (Some w) s pool =
    over (list_below (least_remembered pool (memory_at s.config) s.config.n_obj s.progress.n_remembered) s.config.n_obj) s.ideal_point

unfoldable pub start_ideal : Session → List ℕ → List Float
start_ideal s pool = start_by s.config.window s pool

-- what is remembered once a pool is bred from: the present generation's own part behind those before it, and no more than the window has
unfoldable pub memory_after : Session → List ℕ → Request → List ℕ
memory_after s pool r = last_of (most_words s.config) (memory_in s pool ++ own_words r)

-- the selection that a session's breeding makes, and its operators
abbrev pub request_of : State → List ℕ → Request
request_of st history = record {
  edition = st.session.config.edition;
  marks = take st.session.config.n_obj st.session.config.directions;
  divisions = st.session.config.divisions;
  size = st.session.config.population_size;
  count = plan_count (bred_from st history);
  plans = plan_at (bred_from st history);
  ideal = take st.session.config.n_obj (start_ideal st.session st.pool);
  state = st.session.rng.s;
}

abbrev pub operators_of : Session → Operators
operators_of s =
    operators s.dimensions s.progress.n_dims s.config.crossover_prob s.config.crossover_eta s.config.mutation_eta

-- "the kept plans, with rows, constraints and settings as history gave them, wait for the next generation": the words of the first n of them, in the kept
-- list's order
abbrev pub kept_words : List ℕ → List ℕ → ℕ → List ℕ
kept_words bred kept n = join_below (λ i. block_of bred (get_or kept i 0)) n

-- what the pool's slice holds once it is bred from: the plans bred from, over them those that wait, and behind them what is remembered
abbrev pub pool_after : State → List ℕ → List ℕ → List ℕ
pool_after st history kept =
    let bred = bred_from st history in
    let waits = kept_words bred kept (waiting_of st.session.config.edition st.session.config.population_size) in
    sets (over waits (over bred st.pool)) (memory_at st.session.config) (memory_after st.session st.pool (request_of st history))

-- the ideal that a session has afterwards
abbrev pub ideal_left : State → List ℕ → Selected → List Float
ideal_left st history sel = over (ideal_after st.session.config.window (request_of st history) sel) st.session.ideal_point

-- "a new generation is bred": its candidates take the place of the old ones
unfoldable pub breed : State → List ℕ → State
breed st history =
    let s = st.session in
    let g = generation (operators_of s) (request_of st history) in
    state (bred_session s g.state (ideal_left st history g.selection)) (over (words_of g.offspring) st.candidates) st.plans st.next_dims
    (pool_after st history g.selection.kept)

-- the same, said of a kept list: the state bred from the plans at its places, by the generator and the ideal that the selection leaves
unfoldable pub bred_by : State → List ℕ → List ℕ → State
bred_by st history kept =
    let s = st.session in
    let r = request_of st history in
    let off = born_of (operators_of s) r kept (selected r).state in
    state (bred_session s off.state (ideal_left st history (selected r))) (over (words_of off.value) st.candidates) st.plans st.next_dims
    (pool_after st history kept)

-- ---- which of these a call does

abbrev pub past_discovery : Phase → Bool
past_discovery Discovery = false
past_discovery Active = true

abbrev pub is_active : Session → Bool
is_active s = past_discovery s.phase

-- the plan whose calls add dimensions: the first that came
abbrev pub discovers_for : Option ℕ → ℕ → Bool
discovers_for None plan = true
discovers_for (Some first) plan = eqb first plan

-- the call adds a dimension: by the session's phase and the first plan's number, and by its state
abbrev pub adds_for : Phase → Option ℕ → ℕ → Bool
adds_for phase first plan = not (past_discovery phase) && discovers_for first plan

unfoldable pub discovers : State → ℕ → Bool
discovers st plan = adds_for st.session.phase st.session.discovery_trial_id plan

-- the lent slices have room for what they must hold: by their lengths, and by what they hold
abbrev pub room_for : Config → ℕ → ℕ → ℕ → ℕ → Bool
room_for c candidates plans next_dims pool =
    leb max_words candidates && (leb max_come plans && (leb max_come next_dims && leb (pool_room c) pool))

unfoldable pub long_enough : State → Bool
long_enough st = room_for st.session.config (length st.candidates) (length st.plans) (length st.next_dims) (length st.pool)

-- the call breeds; a slice that is too short to hold the plans that wait shows none of them
unfoldable pub breeds : State → List ℕ → Bool
breeds st history = is_active st.session && (leb (waiting_count st * plan_words) (length st.pool) && evaluated st history)

-- AN ACCEPTED CALL. "Afterwards the distribution passed is ignored."
unfoldable pub accepted : State → Distribution → ℕ → List ℕ → Answered
accepted st d plan history =
    cond (discovers st plan) (discover st d plan)
    (sample_from_candidate (cond (is_active st.session) (cond (breeds st history) (breed st history) st) (activate st)) plan)

-- The dimension that an accepted call answers a setting of: the one passed, where it adds it; else its plan's next one, which of a plan that is new to the
-- generation, as all are once one is bred, is the first, and beyond the last the last one.
unfoldable pub asked : State → Distribution → ℕ → List ℕ → Distribution
asked st d plan history =
    let s = st.session in
    let next = cond (breeds st history || is_new st plan) 0 (get_or st.next_dims (place_in (plans_of st) plan) 0) in
    cond (discovers st plan) d (dimension_of s (min next (s.progress.n_dims - 1)))
