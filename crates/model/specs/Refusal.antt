-- Document 01, "Why a call is turned down": for each public call the first number that applies, or none.
use Rattle.std.specs.Prelude.{ℕ, ◌*◌, Bool, true, false, cond, not, ◌&&◌, ◌||◌, List, [], ◌∷◌, eqb, leb, ltb, Float, pos, length, get_or, Option, None, Some, Result, MatchResult, ◌≡◌, ◌<◌, ◌⊎◌}
use Rattle.std.specs.Float.{binary64}
use Rattle.std.specs.Float.Ieee.{eq, of_bits, to_unsigned}
use Rattle.model.specs.declared.Refusal.{Refusal}
use Rattle.model.specs.declared.UnknownRefusal.{UnknownRefusal}
use Rattle.model.specs.declared.Refusal.TheVariants as why
use Rattle.model.specs.declared.Distribution.{Distribution}
use Rattle.model.specs.declared.Edition.{Edition}
use Rattle.model.specs.declared.Edition.TheVariants.{Second}
use Rattle.model.specs.Edition.{most_plans}
use Rattle.model.specs.Lists.{all_below, all_in}
use Rattle.model.specs.Real.{nought, unit, infinity, of_whole, within}
use Rattle.model.specs.Plan.{Plan, Setting, plan_count, max_objectives, max_constraints, max_settings}
use Rattle.model.specs.Reference.{point_count, max_divisions, divisions_of}
use Rattle.model.specs.Association.{Request, objectives}
use Rattle.model.specs.Setting.{kind_of_dimension, of_word, max_dims, valid_bounds, valid_step, valid_dimension, in_bounds, sort_by_param, no_setting, Operators}
use Rattle.model.specs.Window.{max_window}
use Rattle.model.specs.Session.{State, discovers, breeds, long_enough, is_new, max_come, request_of, operators_of}
use Rattle.model.specs.PoolFile.{PoolFile, opens_second, parse, file_request, file_text}

-- ---- the first that applies

pub record Check : Type 0 where
  pub reason : Refusal
  pub applies : Bool

abbrev pub check : Refusal → Bool → Check
check r b = record { reason = r; applies = b }

-- "The first that applies is answered, and where none applies the call goes through"
unfoldable pub first_of : List Check → Option Refusal
first_of [] = None
first_of (c ∷ cs) = cond c.applies (Some c.reason) (first_of cs)

-- the number of a refusal, as C programs and printed tables have it
abbrev pub number_of : Refusal → ℕ
number_of why.Form = 1
number_of why.Directions = 2
number_of why.Size = 3
number_of why.Divisions = 4
number_of why.Operators = 5
number_of why.Bounds = 6
number_of why.Count = 7
number_of why.Values = 8
number_of why.Parents = 9
number_of why.Room = 10
number_of why.Generation = 11
number_of why.Steps = 12
number_of why.Load = 13
number_of why.Window = 14
number_of why.Bands = 15
number_of why.Litres = 16
number_of why.SecondForm = 17
number_of why.NotHeld = 18

-- the answer is the refusal that has the number, or that none has
abbrev pub Numbered : ℕ → Result Refusal UnknownRefusal → Type 0
Numbered n r = MatchResult r (λ refusal. number_of refusal ≡ n) (λ unknown. (unknown.0 ≡ n) × ((n ≡ 0) ⊎ (18 < n)))

-- ---- what each number asks

-- the limits: most plans wanted (of a size), most plans of a pool of either edition, lines, records of a history
abbrev pub max_size : ℕ
max_size = 1024

abbrev pub max_pool : ℕ
max_pool = most_plans Second

abbrev pub max_lines : ℕ
max_lines = 1024

abbrev pub max_history : ℕ
max_history = 4096

-- 2. "Objectives are not 1 to 8, or a direction mark is neither 0 nor 1."
unfoldable pub bad_directions : List ℕ → Bool
bad_directions marks = not (leb 1 (length marks) && leb (length marks) max_objectives) || not (all_in (λ k. leb k 1) marks)

-- 3. "A session's size is above 1,024, or a selection's or generation step's is 0 or above 1,024."
abbrev pub bad_size : ℕ → Bool
bad_size size = eqb size 0 || ltb max_size size

abbrev pub bad_session_size : Option ℕ → Bool
bad_session_size None = false
bad_session_size (Some size) = ltb max_size size

-- 4. "Divisions given are not 1 to 199, or there would be more than 1,024 lines."
abbrev pub outside_divisions : ℕ → Bool
outside_divisions h = not (leb 1 h && leb h max_divisions)

unfoldable pub bad_divisions : ℕ → ℕ → Bool
bad_divisions m h = outside_divisions h || ltb max_lines (point_count m h)

abbrev pub bad_given_divisions : Option ℕ → Bool
bad_given_divisions None = false
bad_given_divisions (Some h) = outside_divisions h

-- automatic divisions are 1 to 199 themselves, so only the number of lines can turn them down
unfoldable pub bad_session_divisions : ℕ → Option ℕ → Option ℕ → Bool
bad_session_divisions m size divisions = bad_given_divisions divisions || ltb max_lines (point_count m (divisions_of m size divisions))

-- 5. "An eta is not a whole number 0 to 99, or the crossover probability is not within 0..1."
abbrev pub ninety_nine : Float
ninety_nine = of_bits binary64 0x4058_c000_0000_0000

unfoldable pub whole_eta : Float → Bool
whole_eta x = within nought ninety_nine x && eq (of_whole (pos (to_unsigned 64 x))) x

unfoldable pub bad_operators : Float → Float → Float → Bool
bad_operators probability crossover_eta_of mutation_eta_of = not (within nought unit probability && (whole_eta crossover_eta_of && whole_eta mutation_eta_of))

-- 14. document 02, M-109: "w is not 1 to 64; right after 5"
abbrev pub bad_window : Option ℕ → Bool
bad_window None = false
bad_window (Some w) = not (leb 1 w && leb w max_window)

-- 6. what `valid_bounds` asks, and document 02, M-107: "the 25th dimension now meets refusal 6". The greatest number is a parameter, so that what does not
-- depend on it can be said (`limit_laws`).
abbrev pub bad_bounds_past : ℕ → (ℕ → Distribution) → ℕ → Bool
bad_bounds_past limit dims n = ltb limit n || not (all_below (λ d. valid_bounds (dims d)) n)

unfoldable pub bad_bounds : (ℕ → Distribution) → ℕ → Bool
bad_bounds dims n = bad_bounds_past max_dims dims n

-- one dimension more, behind n, would be past the limit or is not as `valid_bounds` asks
abbrev pub bad_next_past : ℕ → ℕ → Distribution → Bool
bad_next_past limit n d = leb limit n || not (valid_bounds d)

abbrev pub bad_next : ℕ → Distribution → Bool
bad_next n d = bad_next_past max_dims n d

-- 12. document 02, M-103: what `valid_step` asks, of n dimensions and of one more
unfoldable pub bad_steps : (ℕ → Distribution) → ℕ → Bool
bad_steps dims n = not (all_below (λ d. valid_step (dims d)) n)

abbrev pub bad_next_step : Distribution → Bool
bad_next_step d = not (valid_step d)

-- what neither 6 nor 12 lets pass: no call of the product goes on with such dimensions
unfoldable pub bad_dimensions : (ℕ → Distribution) → ℕ → Bool
bad_dimensions dims n = ltb max_dims n || not (all_below (λ d. valid_dimension (dims d)) n)

-- 7. "A pool is empty or above 1,024 plans, or a history is above 4,096." Document 02, M-100: "Edition 2's pools may reach 2,048, amending refusal 7."
abbrev pub bad_count : Edition → ℕ → Bool
bad_count edition count = eqb count 0 || ltb (most_plans edition) count

abbrev pub bad_history : List ℕ → Bool
bad_history history = ltb max_history (plan_count history)

-- 8. "A plan's row length isn't m, it has over 16 constraints, or a value or constraint is NaN or beyond 2^1000 in magnitude; likewise the ideal, where plus
-- infinity is allowed."
-- -2^1000 and 2^1000
abbrev pub least_measured : Float
least_measured = of_bits binary64 0xfe70_0000_0000_0000

abbrev pub most_measured : Float
most_measured = of_bits binary64 0x7e70_0000_0000_0000

unfoldable pub measurable : Float → Bool
measurable x = within least_measured most_measured x

abbrev pub is_infinity : Float → Bool
is_infinity x = eq x infinity

unfoldable pub good_plan : ℕ → Plan → Bool
good_plan m p = eqb p.row_length m && (leb p.constraint_count max_constraints && (all_in measurable p.row && all_in measurable p.constraints))

abbrev pub good_entry : Float → Bool
good_entry x = measurable x || is_infinity x

unfoldable pub good_ideal : ℕ → List Float → Bool
good_ideal m ideal = eqb (length ideal) m && all_in good_entry ideal

abbrev pub good_plans : ℕ → (ℕ → Plan) → ℕ → Bool
good_plans m plans n = all_below (λ p. good_plan m (plans p)) n

unfoldable pub bad_pool : Request → Bool
bad_pool r = not (good_plans (objectives r) r.plans r.count && good_ideal (objectives r) r.ideal)

-- 9. "A plan to be bred from has [too many] settings, a parameter number twice, or a setting of another kind than its dimension or not within its bounds (a NaN
-- isn't). Settings past the last dimension are looked at for count and repeats only." Document 02, M-107: "a plan that refusal 9 looks at meets it with over
-- 24"
-- the others have other parameter numbers than x
abbrev pub others_differ : Setting → List Setting → Bool
others_differ x xs = all_in (λ y. not (eqb x.param y.param)) xs

unfoldable pub named_once : List Setting → Bool
named_once [] = true
named_once (x ∷ xs) = others_differ x xs && named_once xs

unfoldable pub fits_dimension : Distribution → Setting → Bool
fits_dimension d x = eqb x.kind (kind_of_dimension d) && in_bounds d (of_word x.kind x.value)

-- setting i of the sorted ones fits dimension i, or there is none
unfoldable pub fits_at : (ℕ → Distribution) → List Setting → ℕ → Bool
fits_at dims sorted i = leb (length sorted) i || fits_dimension (dims i) (get_or sorted i no_setting)

abbrev pub breedable_past : ℕ → (ℕ → Distribution) → ℕ → Plan → Bool
breedable_past limit dims n p =
    leb p.setting_count limit && (named_once p.settings && all_below (fits_at dims (sort_by_param p.settings)) n)

unfoldable pub breedable : (ℕ → Distribution) → ℕ → Plan → Bool
breedable dims n p = breedable_past max_settings dims n p

-- some plan of the pool fails a test
abbrev pub some_fails : (Plan → Bool) → Request → Bool
some_fails able r = not (all_below (λ p. able (r.plans p)) r.count)

unfoldable pub bad_parents : Operators → Request → Bool
bad_parents o r = some_fails (breedable o.dims o.dim_count) r

-- ---- the calls

-- the lengths of a selection's lent slices, beside the ideal's
pub record Room : Type 0 where
  pub kept : ℕ
  pub rules : ℕ
  pub fronts : ℕ
  pub lines : ℕ

-- 10. "A lent slice is shorter than the call's full answer." Document 02, M-108: "A lent slice too short for the second list falls under refusal 10."
-- for what a selection of a size hands out of n plans
abbrev pub too_short : Room → ℕ → ℕ → Bool
too_short room size n = ltb room.kept size || (ltb room.rules size || (ltb room.fronts n || ltb room.lines n))

unfoldable pub no_room : Request → Room → Bool
no_room r room = too_short room r.size r.count

-- what a selection looks at, with its test of 10
abbrev pub select_checks : Request → Bool → List Check
select_checks r short =
    check why.Directions (bad_directions r.marks)
    ∷ check why.Size (bad_size r.size)
    ∷ check why.Divisions (bad_divisions (objectives r) r.divisions)
    ∷ check why.Count (bad_count r.edition r.count)
    ∷ check why.Values (bad_pool r)
    ∷ check why.Room short
    ∷ []

-- `nsga3_select`
unfoldable pub select_refusal : Request → Room → Option Refusal
select_refusal r room = first_of (select_checks r (no_room r room))

-- `nsga3_generate_offspring`: where it selects, it hands out what a selection does; a pool of one has no kept list, no fronts and no lines
abbrev pub step_too_short : Room → ℕ → ℕ → ℕ → ℕ → Bool
step_too_short room offspring size n dims = (leb 2 n && too_short room size n) || ltb offspring (size * dims)

unfoldable pub no_step_room : Operators → Request → Room → ℕ → Bool
no_step_room o r room offspring = step_too_short room offspring r.size r.count o.dim_count

-- what a step looks at, with its tests of 6 and 9; document 02, M-103: 12 is looked at "right after 6, wherever that is looked at"
abbrev pub step_checks_by : Bool → Bool → Operators → Request → Room → ℕ → List Check
step_checks_by six nine o r room offspring =
    check why.Directions (bad_directions r.marks)
    ∷ check why.Size (bad_size r.size)
    ∷ check why.Divisions (bad_divisions (objectives r) r.divisions)
    ∷ check why.Operators (bad_operators o.probability o.crossover_eta_of o.mutation_eta_of)
    ∷ check why.Bounds six
    ∷ check why.Steps (bad_steps o.dims o.dim_count)
    ∷ check why.Count (bad_count r.edition r.count)
    ∷ check why.Values (bad_pool r)
    ∷ check why.Parents nine
    ∷ check why.Room (no_step_room o r room offspring)
    ∷ []

abbrev pub step_checks : Operators → Request → Room → ℕ → List Check
step_checks o r room offspring = step_checks_by (bad_bounds o.dims o.dim_count) (bad_parents o r) o r room offspring

unfoldable pub step_refusal : Operators → Request → Room → ℕ → Option Refusal
step_refusal o r room offspring = first_of (step_checks o r room offspring)

-- `open`
unfoldable pub open_refusal : List ℕ → Option ℕ → Option ℕ → Float → Float → Float → Option ℕ → Option Refusal
open_refusal marks size divisions probability crossover_eta_of mutation_eta_of window = first_of (
    check why.Directions (bad_directions marks)
    ∷ check why.Size (bad_session_size size)
    ∷ check why.Divisions (bad_session_divisions (length marks) size divisions)
    ∷ check why.Operators (bad_operators probability crossover_eta_of mutation_eta_of)
    ∷ check why.Window (bad_window window)
    ∷ [])

-- `sample`: "A session call looks at 6 only when it adds a dimension, and at 8 and 9 only when it breeds, for the plans bred from." So with 12.
-- 11. "A new plan number comes while the generation has 2,048 and this call doesn't breed"; a call in discovery finds no plan in its generation
unfoldable pub sample_refusal : State → Distribution → ℕ → List ℕ → Option Refusal
sample_refusal st d plan history =
    let bred = breeds st history in
    first_of (
    check why.Bounds (discovers st plan && bad_next st.session.progress.n_dims d)
    ∷ check why.Steps (discovers st plan && bad_next_step d)
    ∷ check why.Count (bad_history history)
    ∷ check why.Values (bred && bad_pool (request_of st history))
    ∷ check why.Parents (bred && bad_parents (operators_of st.session) (request_of st history))
    ∷ check why.Room (not (long_enough st))
    ∷ check why.Generation (leb max_come st.session.progress.n_plans && (is_new st plan && not bred))
    ∷ [])

-- `choose`: the whole form is read first, so 1 and 17 come before what any number in the file says
unfoldable pub file_refusal : PoolFile → ℕ → Option Refusal
file_refusal f out = first_of (select_checks (file_request f) (ltb out (length (file_text f))))

-- 1. "A pool file breaks its form, ends early, runs on or is too long." 17, document 02: "a file opening with 64 that breaks the second form, ends early, runs on
-- or is too long, right after 1, which no longer covers it"
abbrev pub form_refusal : List ℕ → Refusal
form_refusal bytes = cond (opens_second bytes) why.SecondForm why.Form

abbrev pub refusal_of_parsed : Refusal → Option PoolFile → ℕ → Option Refusal
refusal_of_parsed n None out = Some n
refusal_of_parsed n (Some f) out = file_refusal f out

unfoldable pub choose_refusal : List ℕ → ℕ → Option Refusal
choose_refusal bytes out = refusal_of_parsed (form_refusal bytes) (parse bytes) out
