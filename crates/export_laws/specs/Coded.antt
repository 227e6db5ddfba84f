-- What each public call leaves, in numbers and lists alone, as a program in another language takes it.
use Rattle.std.specs.Prelude.{ℕ, zero, suc, ◌≤◌, ◌≡◌, Bool, true, not, cond, ◌&&◌, List, [], ◌∷◌, ltb, Float, length, take, Option, None, Some, slice_get, Result, Ok, Err}
use Rattle.model.specs.declared.ParamValue.{ParamValue}
use Rattle.model.specs.declared.Refusal.{Refusal}
use Rattle.model.specs.declared.Refusal.TheVariants as why
use Rattle.model.specs.declared.Phase.{Phase}
use Rattle.model.specs.declared.Session.{Session}
use Rattle.model.specs.declared.Rng.{Rng}
use Rattle.model.specs.Association.{Request}
use Rattle.model.specs.Calls.{Lent, room_of, refused_by, SelectExit, StepExit, ChooseExit, SampleExit, select_of, step_of, open_of, sample_of, choose_of, Bred, Tells, value_or}
use Rattle.model.specs.Demand3.{Demand3}
use Rattle.model.specs.Edition.{edition_of}
use Rattle.model.specs.Rules.{Ruled}
use Rattle.model.specs.Lists.{over}
use Rattle.model.specs.PoolFile.{PoolFile, parse, file_text}
use Rattle.model.specs.Refusal.{Check, check, first_of, bad_history, number_of, select_refusal, step_refusal, open_refusal, sample_refusal, choose_refusal}
use Rattle.model.specs.Setting.{Operators, WordsWithin, in_bounds, kind_of, to_word, of_word, operators}
use Rattle.model.specs.Session.{State, state, adds_for, breeds, asked}
use Rattle.model.specs.Property.{SessionOk}
use Rattle.session_words.specs.Coding.{dimension_width, dimension_at, dimensions_at, dimension_count, session_width, session_words, session_of}

abbrev pub rng_of : ℕ → Rng
rng_of n = record { s = n }

-- ---- the number that a call answers

-- 0 where nothing is refused; else the refusal's number
abbrev pub code_number : Option Refusal → ℕ
code_number None = 0
code_number (Some r) = number_of r

-- the refusals by their numbers, from 1 on
abbrev pub reasons : List Refusal
reasons =
    why.Form ∷ why.Directions ∷ why.Size ∷ why.Divisions ∷ why.Operators ∷ why.Bounds ∷ why.Count ∷ why.Values ∷ why.Parents
    ∷ why.Room ∷ why.Generation ∷ why.Steps ∷ why.Load ∷ why.Window ∷ why.Bands ∷ why.Litres ∷ why.SecondForm ∷ why.NotHeld ∷ []

-- the refusal that a number is read back as: 0 as none, and so is one past the last refusal's. A promise's field `refused` is therefore an equation of numbers
-- (`code_number`), in which 0 alone is that of none
abbrev pub refusal_of : ℕ → Option Refusal
refusal_of zero = None
refusal_of (suc n) = slice_get reasons n

-- the first of two refusals that there is
abbrev pub or_refusal : Option Refusal → Option Refusal → Option Refusal
or_refusal None q = q
or_refusal (Some r) q = Some r

-- ---- selection and generation step

-- the number of an answer
abbrev pub code_of : {A : Type 0} → Result A Refusal → ℕ
code_of o = code_number (refused_by o)

pub record Selected : Type 0 where
  pub code : ℕ
  pub state : ℕ
  pub ideal : List Float
  pub slices : Lent

abbrev pub selected_as : ℕ → SelectExit → Selected
selected_as code e = record { code = code; state = e.answer.rng.s; ideal = e.ideal; slices = e.slices }

abbrev pub selected : SelectExit → Selected
selected e = selected_as (code_of e.answer.outcome) e

-- THE PROMISE of `locustdomino_select`. The list that it hands out is the first `size` entries of `kept`, and its rules are those of `rules`
pub record SelectsWords (r : Request) (entry : Lent) (exit : Selected) : Type 0 where
  pub whole : exit ≡ selected (select_of r entry)
  pub refused : exit.code ≡ code_number (select_refusal r (room_of entry))
  pub demand3 : select_refusal r (room_of entry) ≡ None → r.size ≤ r.count → Demand3 r (take r.size exit.slices.kept)
  pub ruled : select_refusal r (room_of entry) ≡ None → Ruled r (take r.size exit.slices.kept) (take r.size exit.slices.rules)

pub record Stepped : Type 0 where
  pub code : ℕ
  pub kept : ℕ
  pub state : ℕ
  pub ideal : List Float
  pub slices : Lent
  pub offspring : List ℕ

abbrev pub stepped_as : ℕ → ℕ → StepExit → Stepped
stepped_as code kept e = record {
  code = code;
  kept = kept;
  state = e.answer.rng.s;
  ideal = e.ideal;
  slices = e.slices;
  offspring = e.offspring;
}

abbrev pub stepped : ℕ → StepExit → Stepped
stepped old e = stepped_as (code_of e.answer.outcome) (value_or e.answer.outcome old) e

-- THE PROMISE of `locustdomino_generate_offspring`; `old` is the number that `n_kept` had. The list that it hands out is the first `n_kept` entries of `kept`,
-- and its rules are those of `rules`; it selects from a pool of two plans on, and hands out no setting outside its bounds
pub record StepsWords (o : Operators) (r : Request) (entry : Lent) (offspring : List ℕ) (old : ℕ) (exit : Stepped) : Type 0 where
  pub whole : exit ≡ stepped old (step_of o r entry offspring)
  pub refused : exit.code ≡ code_number (step_refusal o r (room_of entry) (length offspring))
  pub demand3 : step_refusal o r (room_of entry) (length offspring) ≡ None → 2 ≤ r.count → r.size ≤ r.count
      → Demand3 r (take exit.kept exit.slices.kept)
  pub ruled : step_refusal o r (room_of entry) (length offspring) ≡ None → 2 ≤ r.count
      → Ruled r (take exit.kept exit.slices.kept) (take exit.kept exit.slices.rules)
  pub bounds : step_refusal o r (room_of entry) (length offspring) ≡ None → WordsWithin o.dims o.dim_count r.size exit.offspring

-- the operators of a step whose dimensions are given as words: as many as are there whole
abbrev pub word_operators : List ℕ → Float → Float → Float → Operators
word_operators dims probability crossover_eta_of mutation_eta_of = operators (dimensions_at dims 0) (dimension_count dims) probability crossover_eta_of mutation_eta_of

-- ---- opening

-- a size or a number of divisions, where its mark is not 0
abbrev pub optional : ℕ → ℕ → Option ℕ
optional zero n = None
optional (suc k) n = Some n

pub record Written : Type 0 where
  pub code : ℕ
  pub words : List ℕ

abbrev pub written : ℕ → List ℕ → Written
written n ws = record { code = n; words = ws }

-- the session's words at the slice's front; a slice too short for them meets 10 and stays as it was
abbrev pub put_session : Session → List ℕ → Written
put_session s ws = cond (ltb (length ws) session_width) (written 10 ws) (written 0 (over (session_words s) ws))

abbrev pub opened_by : Result Unit Refusal → Session → List ℕ → Written
opened_by (Ok tt) s ws = put_session s ws
opened_by (Err r) s ws = written (number_of r) ws

-- THE REFUSALS of `locustdomino_open`: the opening's, and else 10 for a slice that is too short
unfoldable pub open_words_refusal : List ℕ → Option ℕ → Option ℕ → Float → Float → Float → Option ℕ → ℕ → Option Refusal
open_words_refusal marks size divisions probability crossover_eta_of mutation_eta_of window room =
    or_refusal (open_refusal marks size divisions probability crossover_eta_of mutation_eta_of window) (first_of (check why.Room (ltb room session_width) ∷ []))

-- THE PROMISE of `locustdomino_open`, of the edition that a number stands for: where it answers 0, the words stand for the session that is opened, which has the
-- session property
pub record OpensWords (edition : ℕ) (directions : List ℕ) (seed : ℕ) (size divisions : Option ℕ) (probability crossover_eta_of mutation_eta_of : Float) (window : Option ℕ) (entry : List ℕ) (code : ℕ) (exit : List ℕ) : Type 0 where
  pub whole : written code exit
      ≡ opened_by (open_of (edition_of edition) directions seed size divisions probability crossover_eta_of mutation_eta_of window).outcome (open_of (edition_of edition) directions seed size divisions probability crossover_eta_of mutation_eta_of window).session entry
  pub refused : code ≡ code_number (open_words_refusal directions size divisions probability crossover_eta_of mutation_eta_of window (length entry))
  pub holds : code ≡ 0 → session_of exit ≡ (open_of (edition_of edition) directions seed size divisions probability crossover_eta_of mutation_eta_of window).session
  pub gives : code ≡ 0 → (candidates plans next_dims pool : List ℕ) → SessionOk (state (session_of exit) candidates plans next_dims pool)

-- ---- a session call

-- the number answered, the setting's kind and word, the session's words, and the state that these and the lent slices stand for
pub record SampledWords : Type 0 where
  pub code : ℕ
  pub kind : ℕ
  pub value : ℕ
  pub words : List ℕ
  pub after : State

abbrev pub sampled_words : ℕ → ℕ → ℕ → List ℕ → State → SampledWords
sampled_words n k v ws st = record { code = n; kind = k; value = v; words = ws; after = st }

-- a refusal leaves the words, the kind and the value that were there
abbrev pub sampled_by : Result ParamValue Refusal → State → ℕ → ℕ → List ℕ → SampledWords
sampled_by (Ok x) st k v ws = sampled_words 0 (kind_of x) (to_word x) (over (session_words st.session) ws) st
sampled_by (Err r) st k v ws = sampled_words (number_of r) k v ws st

abbrev pub sampled_exit : SampleExit → ℕ → ℕ → List ℕ → SampledWords
sampled_exit e k v ws = sampled_by e.answer e.after k v ws

-- a call that adds a dimension is lent fewer words for it than six: by the session's phase, its first plan, the call's plan and how many are lent
abbrev pub lacks_words : Phase → Option ℕ → ℕ → ℕ → Bool
lacks_words phase first plan words = adds_for phase first plan && ltb words dimension_width

-- What is looked at before the call: six words for a dimension that it adds, and the session's `session_width`. Where these are too few, nobody can tell whether the call
-- adds a dimension, so that 6 is not looked at, and the history is before 10
abbrev pub word_checks : Bool → Bool → Bool → List Check
word_checks short lacks bad =
    check why.Bounds (not short && lacks)
    ∷ check why.Count (short && bad)
    ∷ check why.Room short
    ∷ []

-- the first of these that applies to a session's words, a dimension's and a history
unfoldable pub word_refusal : List ℕ → List ℕ → ℕ → List ℕ → Option Refusal
word_refusal ws ds plan history =
    let s = session_of ws in
    first_of (word_checks (ltb (length ws) session_width) (lacks_words s.phase s.discovery_trial_id plan (length ds)) (bad_history history))

-- THE REFUSALS of `locustdomino_sample`: these, and then what the call looks at. A dimension that is not added is not looked at, so that its slice may be empty
unfoldable pub sample_words_refusal : List ℕ → List ℕ → ℕ → List ℕ → List ℕ → List ℕ → List ℕ → List ℕ → Option Refusal
sample_words_refusal ws ds plan history cs ps ns pool =
    or_refusal (word_refusal ws ds plan history) (sample_refusal (state (session_of ws) cs ps ns pool) (dimension_at ds 0) plan history)

-- what is left: where the words are refused, all as it was, and else what the call leaves
abbrev pub sampled_after : Option Refusal → SampleExit → State → ℕ → ℕ → List ℕ → SampledWords
sampled_after None e st k v ws = sampled_exit e k v ws
sampled_after (Some r) e st k v ws = sampled_words (number_of r) k v ws st

unfoldable pub sample_words : List ℕ → List ℕ → ℕ → List ℕ → List ℕ → List ℕ → List ℕ → List ℕ → ℕ → ℕ → SampledWords
sample_words ws ds plan history cs ps ns pool k v =
    let st = state (session_of ws) cs ps ns pool in
    sampled_after (word_refusal ws ds plan history) (sample_of st (dimension_at ds 0) plan history) st k v ws

-- THE PROMISE of `locustdomino_sample`. `after` is what the words and slices at exit stand for: the state that the call leaves, which has the property again.
-- Where it breeds, its list is selection's; and a setting that it answers is of its dimension's kind and within its bounds
pub record SamplesWords (ws ds : List ℕ) (plan : ℕ) (history cs ps ns pool : List ℕ) (k v : ℕ) (exit : SampledWords) : Type 0 where
  pub whole : exit ≡ sample_words ws ds plan history cs ps ns pool k v
  pub refused : exit.code ≡ code_number (sample_words_refusal ws ds plan history cs ps ns pool)
  pub keeps : session_width ≤ length ws → SessionOk exit.after
  pub demand3 : exit.code ≡ 0 → breeds (state (session_of ws) cs ps ns pool) history ≡ true → Bred (state (session_of ws) cs ps ns pool) plan history exit.after
  pub bounds : exit.code ≡ 0 → in_bounds (asked (state (session_of ws) cs ps ns pool) (dimension_at ds 0) plan history) (of_word exit.kind exit.value) ≡ true

-- ---- the choice for a pool file

pub record Listed : Type 0 where
  pub code : ℕ
  pub length : ℕ
  pub out : List ℕ

abbrev pub listed_as : ℕ → ℕ → ChooseExit → Listed
listed_as code length e = record { code = code; length = length; out = e.out }

abbrev pub listed : ℕ → ChooseExit → Listed
listed old e = listed_as (code_of e.answer) (value_or e.answer old) e

-- THE PROMISE of `locustdomino_choose`; `old` is the number that `length` had. The text that it hands out is the first `length` bytes of `out`
pub record ListsWords (bytes entry : List ℕ) (old : ℕ) (exit : Listed) : Type 0 where
  pub whole : exit ≡ listed old (choose_of bytes entry)
  pub refused : exit.code ≡ code_number (choose_refusal bytes (length entry))
  pub listing : choose_refusal bytes (length entry) ≡ None → (f : PoolFile) → parse bytes ≡ Some f
      → take exit.length exit.out ≡ file_text f
  pub demand3 : choose_refusal bytes (length entry) ≡ None → (f : PoolFile) → parse bytes ≡ Some f → f.size ≤ f.count
      → Tells f (take exit.length exit.out)
