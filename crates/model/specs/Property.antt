-- The session property: "a contract may ask of it a property that opening is proved to give and every call to keep, refused or not, and nothing more".
use Rattle.std.specs.Prelude.{ℕ, ◌≤◌, ◌<◌, max, ◌≡◌, true, false, ◌⊎◌, length, get_or, take, Option, None, Some}
use Rattle.model.specs.declared.Phase.{Phase}
use Rattle.model.specs.declared.Phase.TheVariants.{Discovery, Active}
use Rattle.model.specs.declared.Config.{Config}
use Rattle.model.specs.declared.Session.{Session}
use Rattle.model.specs.Edition.{waiting_of}
use Rattle.model.specs.Lists.{Distinct, all_below, all_in}
use Rattle.model.specs.Plan.{plan_at}
use Rattle.model.specs.Setting.{WordsWithin}
use Rattle.model.specs.Real.{real}
use Rattle.model.specs.Window.{most_remembered}
use Rattle.model.specs.Session.{State, dimension_of, plans_of, long_enough, max_come, numbers_of, waiting_count, memory_in}
use Rattle.model.specs.Refusal.{bad_directions, bad_divisions, bad_operators, bad_window, bad_dimensions, good_entry, good_ideal, good_plans, breedable, max_size}

-- what opening settled is within document 01's limits
pub record ConfigOk (c : Config) : Type 0 where
  pub directions : bad_directions (take c.n_obj c.directions) ≡ false
  pub objectives : c.n_obj ≤ length c.directions
  pub divisions : bad_divisions c.n_obj c.divisions ≡ false
  pub at_least4 : 4 ≤ c.population_size
  pub at_most : c.population_size ≤ max_size
  pub operators : bad_operators c.crossover_prob c.crossover_eta c.mutation_eta ≡ false
  pub window : bad_window c.window ≡ false

-- in discovery a first plan is known exactly if a dimension is entered, there is neither a candidate nor a plan, nobody waits and nothing is remembered
abbrev pub KnownBy : Option ℕ → ℕ → Type 0
KnownBy None dims = dims ≡ 0
KnownBy (Some plan) dims = 1 ≤ dims

pub record DiscoveryOk (s : Session) : Type 0 where
  pub first : KnownBy s.discovery_trial_id s.progress.n_dims
  pub no_candidates : s.progress.n_candidates ≡ 0
  pub no_plans : s.progress.n_plans ≡ 0
  pub no_waiting : s.progress.n_waiting ≡ 0
  pub none_remembered : s.progress.n_remembered ≡ 0

-- afterwards there is a dimension, and a candidate for each of the size and of the plans that have come
pub record ActiveOk (s : Session) : Type 0 where
  pub some_dimension : 1 ≤ s.progress.n_dims
  pub candidates : s.progress.n_candidates ≡ max s.config.population_size s.progress.n_plans
  pub room : s.progress.n_plans ≤ max_come

abbrev pub PhaseOk : Phase → Session → Type 0
PhaseOk Discovery s = DiscoveryOk s
PhaseOk Active s = ActiveOk s

-- document 02, M-100: the plans that wait have different numbers, and neither 8 nor 9 applies to one of them
pub record WaitingOk (st : State) : Type 0 where
  pub different : Distinct (numbers_of st.pool (waiting_count st))
  pub measured : good_plans st.session.config.n_obj (plan_at st.pool) (waiting_count st) ≡ true
  pub breedable : all_below (λ p. breedable (dimension_of st.session) st.session.progress.n_dims (plan_at st.pool p)) (waiting_count st) ≡ true

-- what the lent slices hold: plan numbers that differ, no plan past the last dimension, and settings within their dimensions' bounds; the plans that wait; and
-- own parts of past generations (M-109) that 8 does not apply to
pub record LentOk (st : State) : Type 0 where
  pub different : Distinct (plans_of st)
  pub next : (i : ℕ) → i < st.session.progress.n_plans → get_or st.next_dims i 0 ≤ st.session.progress.n_dims
  pub settings : WordsWithin (dimension_of st.session) st.session.progress.n_dims st.session.progress.n_candidates st.candidates
  pub waiting : WaitingOk st
  pub remembered : all_in (λ w. good_entry (real w)) (memory_in st.session st.pool) ≡ true

-- Of the lent slices it speaks only where they are as long as refusal 10 asks: with one too short every call is turned down, by 10 or a lower number, and
-- leaves all as it was.
pub record SessionOk (st : State) : Type 0 where
  pub config : ConfigOk st.session.config
  -- at most `max_dims` dimensions are entered, each within its limits
  pub dimensions : bad_dimensions (dimension_of st.session) st.session.progress.n_dims ≡ false
  pub phase : PhaseOk st.session.phase st.session
  -- nobody waits, or as many plans as the edition has wait
  pub waiting : (waiting_count st ≡ 0) ⊎ (waiting_count st ≡ waiting_of st.session.config.edition st.session.config.population_size)
  -- no more generations are remembered than the window has beside the present one
  pub remembered : st.session.progress.n_remembered ≤ most_remembered st.session.config.window
  pub ideal : good_ideal st.session.config.n_obj (take st.session.config.n_obj st.session.ideal_point) ≡ true
  pub lent : long_enough st ≡ true → LentOk st
