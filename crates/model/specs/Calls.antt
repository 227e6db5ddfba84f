-- The public calls: what each answers, and what every lent slice holds at exit, refusals too.
-- "the answer is the number alone, with nothing written and no word drawn": a refusal leaves state, generator and slices as they were found.
use Rattle.std.specs.Prelude.{ℕ, ◌+◌, ◌*◌, ◌≤◌, ◌<◌, ◌≡◌, true, ◌⊎◌, List, [], Float, length, get_or, take, Option, None, Some, Result, Ok, Err}
use Rattle.model.specs.declared.Refusal.{Refusal}
use Rattle.model.specs.declared.Distribution.{Distribution}
use Rattle.model.specs.declared.Edition.{Edition}
use Rattle.model.specs.declared.Edition.TheVariants.{First}
use Rattle.model.specs.declared.ParamValue.{ParamValue}
use Rattle.model.specs.declared.Rng.{Rng}
use Rattle.model.specs.declared.Selection.{Selection}
use Rattle.model.specs.declared.Session.{Session}
use Rattle.model.specs.declared.Opened.{Opened}
use Rattle.model.specs.Edition.{most_plans, waiting_of}
use Rattle.model.specs.Lists.{over}
use Rattle.model.specs.Plan.{plan_at, plan_count}
use Rattle.model.specs.Association.{Request}
use Rattle.model.specs.Kept.{Selected, selected, without_line}
use Rattle.model.specs.Demand3.{Demand3}
use Rattle.model.specs.Rules.{Ruled}
use Rattle.model.specs.Setting.{Operators, Generation, generation, in_bounds, words_of, WordsWithin}
use Rattle.model.specs.Session.{State, Answered, opened, blank, accepted, state, breeds, request_of, bred_from, block_of, waiting_count, bred_by, sample_from_candidate, asked}
use Rattle.model.specs.PoolFile.{PoolFile, parse, file_request, listing_text, file_text, refused_text}
use Rattle.model.specs.Refusal.{Room, number_of, max_size, max_lines, select_refusal, step_refusal, open_refusal, sample_refusal, choose_refusal}
use Rattle.model.specs.Property.{SessionOk}

-- ---- the answers' cases: why a call is turned down, or none

abbrev pub refused_by : {A : Type 0} → Result A Refusal → Option Refusal
refused_by (Ok a) = None
refused_by (Err r) = Some r

-- what an answer hands out by value; of a refusal what was there
abbrev pub value_or : {A : Type 0} → Result A Refusal → A → A
value_or (Ok a) old = a
value_or (Err r) old = old

-- the list, or the text, that an answer hands out of a lent slice
abbrev pub handed_out : Result ℕ Refusal → List ℕ → List ℕ
handed_out (Ok n) slice = take n slice
handed_out (Err r) slice = []

-- ---- `nsga3_select`

-- what the call is given, as a request: the pool is the whole plans of a slice of words
abbrev pub word_request : Edition → List ℕ → List ℕ → ℕ → ℕ → Rng → List Float → Request
word_request edition pool directions divisions size rng ideal = record {
  edition = edition;
  marks = directions;
  divisions = divisions;
  size = size;
  count = plan_count pool;
  plans = plan_at pool;
  ideal = ideal;
  state = rng.s;
}

-- the lent slices of a selection beside the ideal
pub record Lent : Type 0 where
  pub kept : List ℕ
  pub rules : List ℕ
  pub fronts : List ℕ
  pub lines : List ℕ

abbrev pub lent : List ℕ → List ℕ → List ℕ → List ℕ → Lent
lent k u f l = record { kept = k; rules = u; fronts = f; lines = l }

abbrev pub room_of : Lent → Room
room_of at = record { kept = length at.kept; rules = length at.rules; fronts = length at.fronts; lines = length at.lines }

pub record SelectExit : Type 0 where
  pub answer : Selection
  pub ideal : List Float
  pub slices : Lent

abbrev pub select_exit : Selection → List Float → Lent → SelectExit
select_exit answer ideal slices = record { answer = answer; ideal = ideal; slices = slices }

abbrev pub answered : Result ℕ Refusal → ℕ → Selection
answered o s = record { outcome = o; rng = record { s = s } }

-- what a selection leaves in the lent slices
abbrev pub laid : Selected → Lent → Lent
laid sel at = lent (over sel.kept at.kept) (over sel.rules at.rules) (over sel.fronts at.fronts) (over sel.lines at.lines)

unfoldable pub select_accepted : Request → Lent → SelectExit
select_accepted r at =
    let sel = selected r in
    select_exit (answered (Ok (length sel.kept)) sel.state) sel.ideal (laid sel at)

abbrev pub select_by : Option Refusal → Request → Lent → SelectExit
select_by None r at = select_accepted r at
select_by (Some n) r at = select_exit (answered (Err n) r.state) r.ideal at

unfoldable pub select_of : Request → Lent → SelectExit
select_of r at = select_by (select_refusal r (room_of at)) r at

-- THE PROMISE of `nsga3_select`
pub record Selects (r : Request) (entry : Lent) (exit : SelectExit) : Type 0 where
  pub whole : exit ≡ select_of r entry
  pub refused : refused_by exit.answer.outcome ≡ select_refusal r (room_of entry)
  pub demand3 : select_refusal r (room_of entry) ≡ None → r.size ≤ r.count → Demand3 r (handed_out exit.answer.outcome exit.slices.kept)
  pub ruled : select_refusal r (room_of entry) ≡ None
      → Ruled r (handed_out exit.answer.outcome exit.slices.kept) (handed_out exit.answer.outcome exit.slices.rules)

-- ---- `nsga3_generate_offspring`

pub record StepExit : Type 0 where
  pub answer : Selection
  pub ideal : List Float
  pub slices : Lent
  pub offspring : List ℕ

abbrev pub step_exit : Selection → List Float → Lent → List ℕ → StepExit
step_exit answer ideal slices offspring = record { answer = answer; ideal = ideal; slices = slices; offspring = offspring }

-- what a generation leaves in the lent slices
abbrev pub generation_exit : Generation → Lent → List ℕ → StepExit
generation_exit g at offspring =
    let sel = g.selection in
    step_exit (answered (Ok (length sel.kept)) g.state) sel.ideal (laid sel at) (over (words_of g.offspring) offspring)

unfoldable pub step_accepted : Operators → Request → Lent → List ℕ → StepExit
step_accepted o r at offspring = generation_exit (generation o r) at offspring

abbrev pub step_by : Option Refusal → Operators → Request → Lent → List ℕ → StepExit
step_by None o r at offspring = step_accepted o r at offspring
step_by (Some n) o r at offspring = step_exit (answered (Err n) r.state) r.ideal at offspring

unfoldable pub step_of : Operators → Request → Lent → List ℕ → StepExit
step_of o r at offspring = step_by (step_refusal o r (room_of at) (length offspring)) o r at offspring

-- THE PROMISE of `nsga3_generate_offspring`; it selects from a pool of two plans on, and hands out no setting outside its bounds
pub record Steps (o : Operators) (r : Request) (entry : Lent) (offspring : List ℕ) (exit : StepExit) : Type 0 where
  pub whole : exit ≡ step_of o r entry offspring
  pub refused : refused_by exit.answer.outcome ≡ step_refusal o r (room_of entry) (length offspring)
  pub demand3 : step_refusal o r (room_of entry) (length offspring) ≡ None → 2 ≤ r.count → r.size ≤ r.count
      → Demand3 r (handed_out exit.answer.outcome exit.slices.kept)
  pub ruled : step_refusal o r (room_of entry) (length offspring) ≡ None → 2 ≤ r.count
      → Ruled r (handed_out exit.answer.outcome exit.slices.kept) (handed_out exit.answer.outcome exit.slices.rules)
  pub bounds : step_refusal o r (room_of entry) (length offspring) ≡ None → WordsWithin o.dims o.dim_count r.size exit.offspring

-- ---- `open`

abbrev pub open_by : Option Refusal → Session → Opened
open_by None s = record { outcome = (Ok tt); session = s }
open_by (Some n) s = record { outcome = Err n; session = blank }

unfoldable pub open_of : Edition → List ℕ → ℕ → Option ℕ → Option ℕ → Float → Float → Float → Option ℕ → Opened
open_of edition directions seed size divisions probability crossover_eta_of mutation_eta_of window =
    open_by (open_refusal directions size divisions probability crossover_eta_of mutation_eta_of window)
    (opened edition directions seed size divisions probability crossover_eta_of mutation_eta_of window)

-- THE PROMISE of `open`: what it answers has the session property, refused or not, whatever the slices hold that are lent with it
pub record Opens (edition : Edition) (directions : List ℕ) (seed : ℕ) (size divisions : Option ℕ) (probability crossover_eta_of mutation_eta_of : Float) (window : Option ℕ)
    (r : Opened) : Type 0 where
  pub whole : r ≡ open_of edition directions seed size divisions probability crossover_eta_of mutation_eta_of window
  pub refused : refused_by r.outcome ≡ open_refusal directions size divisions probability crossover_eta_of mutation_eta_of window
  pub gives : (candidates plans next_dims pool : List ℕ) → SessionOk (state r.session candidates plans next_dims pool)

-- ---- `sample`

pub record SampleExit : Type 0 where
  pub answer : Result ParamValue Refusal
  pub after : State

-- what an accepted call leaves
abbrev pub settled : Answered → SampleExit
settled a = record { answer = Ok a.setting; after = a.after }

abbrev pub sample_by : Option Refusal → State → Answered → SampleExit
sample_by None st a = settled a
sample_by (Some n) st a = record { answer = Err n; after = st }

unfoldable pub sample_of : State → Distribution → ℕ → List ℕ → SampleExit
sample_of st d plan history = sample_by (sample_refusal st d plan history) st (accepted st d plan history)

-- a state that a breeding call leaves: it is the one bred from a kept list that meets demand 3, with the plan's next setting handed out. Document 02, M-100: as
-- many plans wait as the edition has it, and they are the pool's plans at the kept places, word for word.
pub record Bred (st : State) (plan : ℕ) (history : List ℕ) (after : State) : Type 0 where
  pub kept : List ℕ
  pub demand3 : Demand3 (request_of st history) kept
  pub from : after ≡ (sample_from_candidate (bred_by st history kept) plan).after
  pub count : waiting_count after ≡ waiting_of st.session.config.edition st.session.config.population_size
  pub waiting : (i : ℕ) → i < waiting_count after → block_of after.pool i ≡ block_of (bred_from st history) (get_or kept i 0)

-- THE PROMISE of `sample`, for a state with the session property. Where it breeds, its list is selection's; and a setting that it answers is of its
-- dimension's kind and within its bounds.
pub record Samples (st : State) (d : Distribution) (plan : ℕ) (history : List ℕ) (exit : SampleExit) : Type 0 where
  pub whole : exit ≡ sample_of st d plan history
  pub refused : refused_by exit.answer ≡ sample_refusal st d plan history
  pub keeps : SessionOk exit.after
  pub demand3 : sample_refusal st d plan history ≡ None → breeds st history ≡ true → Bred st plan history exit.after
  pub bounds : (v : ParamValue) → exit.answer ≡ Ok v → in_bounds (asked st d plan history) v ≡ true

-- ---- `choose`

pub record ChooseExit : Type 0 where
  pub answer : Result ℕ Refusal
  pub out : List ℕ

-- the listing of a file that is in good form; one that is not is refused and has none
abbrev pub text_of : Option PoolFile → List ℕ
text_of None = []
text_of (Some f) = file_text f

abbrev pub choose_by : Option Refusal → List ℕ → List ℕ → ChooseExit
choose_by None text out = record { answer = Ok (length text); out = over text out }
choose_by (Some n) text out = record { answer = Err n; out = out }

unfoldable pub choose_of : List ℕ → List ℕ → ChooseExit
choose_of bytes out = choose_by (choose_refusal bytes (length out)) (text_of (parse bytes)) out

-- what the program prints, with room for any text: the listing, or the refusal's number
abbrev pub printed_by : Option Refusal → List ℕ → List ℕ
printed_by None text = text
printed_by (Some r) text = refused_text (number_of r)

-- no listing is longer than a header of 21 bytes and a line of 20 bytes for each plan of a pool of edition 1
abbrev pub max_text : ℕ
max_text = most_plans First * 20 + 21

unfoldable pub printed : List ℕ → List ℕ
printed bytes = printed_by (choose_refusal bytes max_text) (text_of (parse bytes))

-- a selection whose listing tells it: its plan count, list, fronts and lines are within document 01's limits
pub record Listable (count : ℕ) (sel : Selected) : Type 0 where
  pub plans : count ≤ most_plans First
  pub kept : length sel.kept ≤ max_size
  pub fronts : (p : ℕ) → p < count → get_or sel.fronts p 0 ≤ most_plans First
  pub lines : (p : ℕ) → p < count → (get_or sel.lines p 0 ≤ max_lines) ⊎ (get_or sel.lines p 0 ≡ without_line)

-- DEMAND 3 of a text, for a file: the text is the listing of what the file selects, and every selection of which it is the listing has a kept list that meets
-- the demand
pub record Tells (f : PoolFile) (text : List ℕ) : Type 0 where
  pub listing : text ≡ file_text f
  pub some : Listable f.count (selected (file_request f))
  pub every : (n : ℕ) (s : Selected) → Listable n s → listing_text n s ≡ text → Demand3 (file_request f) s.kept

-- THE PROMISE of `choose`: the text that it hands out is the listing of a selection, and the kept list that it tells meets demand 3
pub record Chooses (bytes entry : List ℕ) (exit : ChooseExit) : Type 0 where
  pub whole : exit ≡ choose_of bytes entry
  pub refused : refused_by exit.answer ≡ choose_refusal bytes (length entry)
  pub listing : choose_refusal bytes (length entry) ≡ None → (f : PoolFile) → parse bytes ≡ Some f
      → handed_out exit.answer exit.out ≡ file_text f
  pub demand3 : choose_refusal bytes (length entry) ≡ None → (f : PoolFile) → parse bytes ≡ Some f → f.size ≤ f.count
      → Tells f (handed_out exit.answer exit.out)
