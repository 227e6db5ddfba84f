-- Document 02, M-107: "Twenty-four settings." What the greatest number turns down, and that nothing below it depends on it.
use Rattle.std.specs.Prelude.{ℕ, ◌+◌, ◌*◌, ◌≤◌, ◌<◌, ◌≡◌, Bool, true, false, not, ◌&&◌, List, Option, Some}
use Rattle.model.specs.declared.Refusal.{Refusal}
use Rattle.model.specs.declared.Refusal.TheVariants as why
use Rattle.model.specs.declared.Distribution.{Distribution}
use Rattle.model.specs.Lists.{all_below}
use Rattle.model.specs.Plan.{Plan, plan_up_to, plan_of}
use Rattle.model.specs.Association.{Request}
use Rattle.model.specs.Setting.{valid_bounds, sort_by_param, Operators}
use Rattle.model.specs.Session.{State, discovers}
use Rattle.model.specs.Refusal.{Room, first_of, bad_bounds, bad_bounds_past, bad_next, bad_next_past, named_once, fits_at, breedable, breedable_past, bad_parents, some_fails, step_checks_by, step_refusal, sample_refusal}

-- The refusal of a generation step whose greatest number of dimensions and settings is `limit`. A request's plans have their settings as lists, so nothing else
-- in it depends on the number; nor does what an accepted step answers (`generation`).
abbrev pub step_refusal_past : ℕ → Operators → Request → Room → ℕ → Option Refusal
step_refusal_past limit o r room offspring =
    first_of (step_checks_by (bad_bounds_past limit o.dims o.dim_count) (some_fails (breedable_past limit o.dims o.dim_count) r) o r room offspring)

-- "That becomes the greatest": 24 pass where all else does, and 25 never.
pub record TwentyFour : Type 0 where
  -- "the 25th dimension now meets refusal 6": of a step's dimensions, and of a session's next one
  pub dimensions_over : (dims : ℕ → Distribution) (n : ℕ) → 24 < n → bad_bounds dims n ≡ true
  pub dimensions_within : (dims : ℕ → Distribution) (n : ℕ) → n ≤ 24 → bad_bounds dims n ≡ not (all_below (λ d. valid_bounds (dims d)) n)
  pub next_over : (n : ℕ) (d : Distribution) → 24 ≤ n → bad_next n d ≡ true
  pub next_within : (n : ℕ) (d : Distribution) → n < 24 → bad_next n d ≡ not (valid_bounds d)
  -- a session with 24 dimensions answers 6 to a call that would add one
  pub session : (st : State) (d : Distribution) (plan : ℕ) (history : List ℕ) → discovers st plan ≡ true → 24 ≤ st.session.progress.n_dims
      → sample_refusal st d plan history ≡ Some why.Bounds
  -- "and a plan that refusal 9 looks at meets it with over 24"
  pub settings_over : (dims : ℕ → Distribution) (n : ℕ) (p : Plan) → 24 < p.setting_count → breedable dims n p ≡ false
  pub settings_within : (dims : ℕ → Distribution) (n : ℕ) (p : Plan) → p.setting_count ≤ 24
      → breedable dims n p ≡ (named_once p.settings && all_below (fits_at dims (sort_by_param p.settings)) n)
  pub pool_over : (o : Operators) (r : Request) (i : ℕ) → i < r.count → 24 < (r.plans i).setting_count → bad_parents o r ≡ true
  -- so that a plan is read from its words, and a step refused, as `LimitsAgree` says it of 24
  pub words : (word : ℕ → ℕ) → plan_of word ≡ plan_up_to 24 word
  pub step : (o : Operators) (r : Request) (room : Room) (offspring : ℕ) → step_refusal o r room offspring ≡ step_refusal_past 24 o r room offspring

-- "Sessions of at most 24 dimensions, whose pools hold only plans of at most 24 settings, go on with unchanged answers": wherever a definition reads the
-- greatest number, two numbers answer alike below both of them.
pub record LimitsAgree (a b : ℕ) : Type 0 where
  pub dimensions : (dims : ℕ → Distribution) (n : ℕ) → n ≤ a → n ≤ b → bad_bounds_past a dims n ≡ bad_bounds_past b dims n
  pub next : (n : ℕ) (d : Distribution) → n < a → n < b → bad_next_past a n d ≡ bad_next_past b n d
  -- a plan has words for as many settings as there may be: the words of those that it has make the plan, whatever stands behind them
  pub plan : (f g : ℕ → ℕ) → f 27 ≤ a → f 27 ≤ b → ((j : ℕ) → j < 28 + 3 * f 27 → f j ≡ g j) → plan_up_to a f ≡ plan_up_to b g
  pub parent : (dims : ℕ → Distribution) (n : ℕ) (p : Plan) → p.setting_count ≤ a → p.setting_count ≤ b
      → breedable_past a dims n p ≡ breedable_past b dims n p
  -- the whole refusal of a generation step, which a session's breeding asks too
  pub step : (o : Operators) (r : Request) (room : Room) (offspring : ℕ) → o.dim_count ≤ a → o.dim_count ≤ b
      → ((i : ℕ) → i < r.count → ((r.plans i).setting_count ≤ a) × ((r.plans i).setting_count ≤ b))
      → step_refusal_past a o r room offspring ≡ step_refusal_past b o r room offspring
