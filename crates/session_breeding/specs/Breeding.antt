-- What breeding asks and answers, in the words of the calls' definitions.
use Rattle.std.specs.Prelude.{◌≡◌, ℕ, ◌*◌, ◌<◌, ◌≤◌, true, List, [], length, take, replicate, slice_index, slice_index_or, Float, Option, None, Some}
use Rattle.std.specs.Float.{nan}
use Rattle.std.proofs.lemmas.List.Edits.{sets}
use Rattle.model.specs.declared.Refusal.{Refusal}
use Rattle.model.specs.declared.Edition.{Edition}
use Rattle.model.specs.declared.Selection.{Selection}
use Rattle.model.specs.declared.Session.{Session}
use Rattle.model.specs.Edition.{most_plans, waiting_of}
use Rattle.model.specs.Lists.{all_below, list_below, over}
use Rattle.model.specs.Real.{infinity}
use Rattle.model.specs.Plan.{plan_at, plan_count, plan_words, max_objectives}
use Rattle.model.specs.Window.{most_remembered, ideal_after}
use Rattle.model.specs.Association.{Request}
use Rattle.model.specs.Setting.{generation, words_of}
use Rattle.model.specs.Session.{State, state, pool_room, memory_at, memory_after, operators_of, stands_in, kept_words, bred_session, breed, max_words}
use Rattle.model.specs.Refusal.{max_size, max_pool}
use Rattle.model.specs.Calls.{Lent, StepExit, lent, word_request, step_accepted}
use Rattle.model.specs.Property.{SessionOk}
use Rattle.session_window.specs.Sources.{least_in}
use Rattle.session_laws.specs.Refused.{Sound, request_from, word_refusal, breed_refusal}

-- ---- the generation step of a session

-- what of a step's answer a session takes
pub record Stepped : Type 0 where
  pub answer : Selection
  pub ideal : List Float
  pub kept : List ℕ
  pub lines : List ℕ
  pub offspring : List ℕ

abbrev pub stepped : Selection → List Float → List ℕ → List ℕ → List ℕ → Stepped
stepped r ideal kept lines offspring = record { answer = r; ideal = ideal; kept = kept; lines = lines; offspring = offspring }

abbrev pub taken_of : StepExit → Stepped
taken_of e = stepped e.answer e.ideal e.slices.kept e.slices.lines e.offspring

-- the lists that are lent for the selection
abbrev pub lent_with : List ℕ → List ℕ → Lent
lent_with kept lines = lent kept (replicate max_size 0) (replicate max_pool 0) lines

abbrev pub step_request : Session → List ℕ → List Float → Request
step_request s words ideal =
    word_request s.config.edition words (take s.config.n_obj s.config.directions) s.config.divisions s.config.population_size s.rng ideal

abbrev pub step_on : Session → List ℕ → List Float → List ℕ → List ℕ → List ℕ → Stepped
step_on s words ideal kept lines offspring = taken_of (step_accepted (operators_of s) (step_request s words ideal) (lent_with kept lines) offspring)

-- ---- what a generation leaves of the ideal, by its lines (document 02, M-109)

-- a pool of plans that have as many values as there are objectives, a session with as many, and a line for each plan
pub record Told (s : Session) (words : List ℕ) (for_lines : ℕ) : Type 0 where
  pub sound : Sound s
  pub lines : plan_count words ≤ for_lines
  pub rows : (p : ℕ) → p < plan_count words → s.config.n_obj ≤ (plan_at words p).row_length

abbrev pub marks_of : Session → List ℕ
marks_of s = take s.config.n_obj s.config.directions

-- each entry of an ideal, and the plans' least
abbrev pub least_on : Session → List ℕ → List ℕ → List Float → List Float
least_on s words lines ideal = over (list_below (λ j. least_in (marks_of s) words lines (slice_index_or ideal j nan) j) (length (marks_of s))) ideal

abbrev pub ideal_by : Option ℕ → Session → List Float → List ℕ → List ℕ → List Float
ideal_by None s chosen words lines = chosen
ideal_by (Some w) s chosen words lines = least_on s words lines s.ideal_point

abbrev pub own_by : Option ℕ → Session → List Float → List ℕ → List ℕ → List Float
own_by None s chosen words lines = chosen
own_by (Some w) s chosen words lines = least_on s words lines (replicate max_objectives infinity)

-- ---- the plans that wait

-- a kept list whose plans are to wait, of the plans that words hold, and room for them
pub record Keeping (edition : Edition) (size : ℕ) (kept words : List ℕ) (for_room for_pool : ℕ) : Type 0 where
  pub listed : waiting_of edition size ≤ length kept
  pub within : (i : ℕ) → i < waiting_of edition size → slice_index kept i < plan_count words
  pub room : waiting_of edition size * plan_words ≤ for_room
  pub pool : waiting_of edition size * plan_words ≤ for_pool

-- ---- breeding from the plans that words hold

-- no refusal applies to them, they are as many as a session breeds from, and there is room
pub record Poised (s : Session) (words : List ℕ) (for_room for_pool for_candidates : ℕ) : Type 0 where
  pub ok : Sound s
  pub remembered : s.progress.n_remembered ≤ most_remembered s.config.window
  pub accepted : word_refusal s words ≡ None
  pub enough : s.config.population_size ≤ plan_count words
  pub most : plan_count words ≤ most_plans s.config.edition
  pub room : max_size * plan_words ≤ for_room
  pub pool : pool_room s.config ≤ for_pool
  pub candidates : max_words ≤ for_candidates

-- the state that it leaves
abbrev pub bred_on : Session → List ℕ → List ℕ → List ℕ → State
bred_on s words candidates pool =
    let r = request_from s words in
    let g = generation (operators_of s) r in
    state (bred_session s g.state (over (ideal_after s.config.window r g.selection) s.ideal_point)) (over (words_of g.offspring) candidates) [] []
    (sets (over (kept_words words g.selection.kept (waiting_of s.config.edition s.config.population_size)) pool) (memory_at s.config) (memory_after s pool r))

-- ---- breeding

-- the pool holds the plans that wait, and the first plans of the generation stand in history
pub record Gatherable (s : Session) (history plans pool : List ℕ) : Type 0 where
  pub ok : SessionOk (state s [] [] [] [])
  pub waits : s.progress.n_waiting * plan_words ≤ length pool
  pub held : s.config.population_size ≤ length plans
  pub stand : all_below (stands_in history plans) s.config.population_size ≡ true

pub record BredExit : Type 0 where
  pub refusal : Option Refusal
  pub after : State

abbrev pub bred_exit : Option Refusal → State → BredExit
bred_exit o st = record { refusal = o; after = st }

-- the state that it leaves, by its refusal
abbrev pub bred_to : Option Refusal → State → List ℕ → State
bred_to None st history = breed st history
bred_to (Some n) st history = st

abbrev pub breed_by : Option Refusal → State → List ℕ → BredExit
breed_by o st history = bred_exit o (bred_to o st history)

abbrev pub breed_of : State → List ℕ → BredExit
breed_of st history = breed_by (breed_refusal st history) st history
