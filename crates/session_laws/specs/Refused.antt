-- The refusals that are left of a session call which breeds.
use Rattle.std.specs.Prelude.{ℕ, ◌≤◌, ◌≡◌, true, false, List, [], ◌∷◌, length, take, Option}
use Rattle.model.specs.declared.Refusal.{Refusal}
use Rattle.model.specs.declared.Refusal.TheVariants as why
use Rattle.model.specs.declared.Session.{Session}
use Rattle.model.specs.Association.{Request}
use Rattle.model.specs.Session.{State, dimension_of, with_ideal, start_ideal, request_of, operators_of}
use Rattle.model.specs.Refusal.{Check, check, first_of, bad_dimensions, bad_pool, bad_parents}
use Rattle.model.specs.Property.{ConfigOk}
use Rattle.model.specs.Calls.{word_request}

-- a session with the ideal that its selection starts from (document 02, M-109)
abbrev pub slid : Session → List ℕ → Session
slid s pool = with_ideal s (start_ideal s pool)

-- what breeding looks at of such a session: what it was opened with, its dimensions, and an ideal of as many entries as there are objectives
pub record Sound (s : Session) : Type 0 where
  pub config : ConfigOk s.config
  pub dimensions : bad_dimensions (dimension_of s) s.progress.n_dims ≡ false
  pub ideal : s.config.n_obj ≤ length s.ideal_point

-- a session's selection from the plans that words hold; of such a session, and from those that it breeds from, it is `request_of`
abbrev pub request_from : Session → List ℕ → Request
request_from s words =
    word_request s.config.edition words (take s.config.n_obj s.config.directions) s.config.divisions s.config.population_size s.rng
    (take s.config.n_obj s.ideal_point)

-- 8 and 9 for them, and what comes after them
abbrev pub word_checks : Session → List ℕ → List Check → List Check
word_checks s words cs = check why.Values (bad_pool (request_from s words)) ∷ check why.Parents (bad_parents (operators_of s) (request_from s words)) ∷ cs

abbrev pub word_refusal : Session → List ℕ → Option Refusal
word_refusal s words = first_of (word_checks s words [])

-- the same for the plans bred from
abbrev pub bred_checks : State → List ℕ → List Check → List Check
bred_checks st history cs = check why.Values (bad_pool (request_of st history)) ∷ check why.Parents (bad_parents (operators_of st.session) (request_of st history)) ∷ cs

-- nothing, where the lent slices are long enough
abbrev pub breed_refusal : State → List ℕ → Option Refusal
breed_refusal st history = first_of (bred_checks st history [])

-- and 10, where one is too short
abbrev pub short_refusal : State → List ℕ → Option Refusal
short_refusal st history = first_of (bred_checks st history (check why.Room true ∷ []))
