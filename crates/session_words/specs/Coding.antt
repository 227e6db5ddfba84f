-- A session and its dimensions as words. Any words stand for some session, and the words of a session stand for it.
use Rattle.std.specs.Prelude.{ℕ, zero, suc, ◌+◌, ◌*◌, ◌%◌, ◌/◌, Bool, true, false, List, [], ◌∷◌, ◌++◌, Float, length, get_or, Option, None, Some, is_some}
use Rattle.std.specs.Bool.{then_some}
use Rattle.std.specs.Option.{unwrap_or}
use Rattle.std.specs.Float.{nan}
use Rattle.model.specs.declared.Distribution.{Distribution}
use Rattle.model.specs.declared.Distribution.TheVariants as dist
use Rattle.model.specs.declared.DimensionInfo.{DimensionInfo}
use Rattle.model.specs.declared.Phase.{Phase}
use Rattle.model.specs.declared.Phase.TheVariants.{Discovery, Active}
use Rattle.model.specs.declared.Config.{Config}
use Rattle.model.specs.Edition.{edition_number, edition_of}
use Rattle.model.specs.declared.Progress.{Progress}
use Rattle.model.specs.declared.Session.{Session}
use Rattle.model.specs.Lists.{one, list_below, join_below}
use Rattle.model.specs.Plan.{max_objectives}
use Rattle.model.specs.Real.{real, bits}
use Rattle.model.specs.Setting.{word_of_int, int_of_word, max_dims}
use Rattle.model.specs.Session.{dimension_of, progress}
use Rattle.session_words.specs.Place as place

-- a mark: 0 is no, any other word is yes
abbrev pub marked : ℕ → Bool
marked zero = false
marked (suc n) = true

-- A value that need not be there is a mark and a word: the mark says whether it is there, and where it is not the word is 0. `then_some` reads it back
abbrev pub mark_of : {A : Type 0} → Option A → ℕ
mark_of o = one (is_some o)

abbrev pub word_or_none : {A : Type 0} → (A → ℕ) → Option A → ℕ
word_or_none f None = 0
word_or_none f (Some x) = f x

-- ---- a dimension is six words: kind (0 Float, 1 Int, else Categorical), low or the number of choices, high, log scale, whether there is a step, step

abbrev pub dimension_width : ℕ
dimension_width = 6

abbrev pub dimension_words : Distribution → List ℕ
dimension_words (dist.Float d) =
    0 ∷ bits d.low ∷ bits d.high ∷ one d.log_scale ∷ mark_of d.step ∷ word_or_none bits d.step ∷ []
dimension_words (dist.Int d) =
    1 ∷ word_of_int d.low ∷ word_of_int d.high ∷ one d.log_scale ∷ mark_of d.step ∷ word_or_none word_of_int d.step ∷ []
dimension_words (dist.Categorical d) = 2 ∷ d.n_choices ∷ 0 ∷ 0 ∷ 0 ∷ 0 ∷ []

abbrev pub distribution_of : ℕ → ℕ → ℕ → ℕ → ℕ → ℕ → Distribution
distribution_of zero low high log has step =
    dist.Float (record { low = real low; high = real high; log_scale = marked log; step = then_some (marked has) (real step) })
distribution_of (suc zero) low high log has step =
    dist.Int (record { low = int_of_word low; high = int_of_word high; log_scale = marked log; step = then_some (marked has) (int_of_word step) })
distribution_of (suc (suc k)) low high log has step = dist.Categorical (record { n_choices = low })

-- the dimension whose words begin at a place; past the end of a slice every word reads as 0
abbrev pub dimension_at : List ℕ → ℕ → Distribution
dimension_at ws at =
    distribution_of (get_or ws at 0) (get_or ws (at + 1) 0) (get_or ws (at + 2) 0) (get_or ws (at + 3) 0) (get_or ws (at + 4) 0) (get_or ws (at + 5) 0)

-- dimension d from a place on
abbrev pub info_at : List ℕ → ℕ → ℕ → DimensionInfo
info_at ws from d = record { distribution = dimension_at ws (from + d * dimension_width) }

-- and as many as a session holds
unfoldable pub dimensions_at : List ℕ → ℕ → List DimensionInfo
dimensions_at ws from = list_below (info_at ws from) max_dims

-- how many dimensions a slice holds: those that are there whole
abbrev pub dimension_count : List ℕ → ℕ
dimension_count ws = length ws / dimension_width

-- ---- a session is `session_width` words: `head_width` of its own, each field at its place (`Place`), and as many dimensions as it may have

abbrev pub head_width : ℕ
head_width = place.dimensions

abbrev pub session_width : ℕ
session_width = head_width + max_dims * dimension_width

abbrev pub phase_word : Phase → ℕ
phase_word Discovery = 0
phase_word Active = 1

abbrev pub phase_of : ℕ → Phase
phase_of zero = Discovery
phase_of (suc n) = Active

-- eight places of an array
abbrev pub eight : {A : Type 0} → (ℕ → A) → List A
eight f = f 0 ∷ f 1 ∷ f 2 ∷ f 3 ∷ f 4 ∷ f 5 ∷ f 6 ∷ f 7 ∷ []

-- what a session was opened with, from `place.objectives` on
unfoldable pub config_words : Config → List ℕ
config_words c =
    c.n_obj ∷ eight (λ i. get_or c.directions i 0)
    ++ (c.divisions ∷ c.population_size ∷ bits c.crossover_prob ∷ bits c.crossover_eta ∷ bits c.mutation_eta ∷ edition_number c.edition
    ∷ mark_of c.window ∷ unwrap_or c.window 0 ∷ [])

-- how far it is, from `place.phase` on: phase (0 discovery, else active), first plan, generator, counts and generation
unfoldable pub state_words : Session → List ℕ
state_words s =
    let p = s.progress in
    phase_word s.phase ∷ mark_of s.discovery_trial_id ∷ unwrap_or s.discovery_trial_id 0 ∷ s.rng.s
    ∷ p.n_dims ∷ p.n_candidates ∷ p.n_plans ∷ p.n_waiting ∷ p.n_remembered ∷ p.generation ∷ []

-- from `place.ideal` on
unfoldable pub ideal_words : List Float → List ℕ
ideal_words ideal = eight (λ i. bits (get_or ideal i nan))

-- and from `place.dimensions` on the dimensions
unfoldable pub session_words : Session → List ℕ
session_words s =
    config_words s.config ++ (state_words s ++ (ideal_words s.ideal_point ++ join_below (λ d. dimension_words (dimension_of s d)) max_dims))

-- a direction is a byte
unfoldable pub marks_at : List ℕ → List ℕ
marks_at ws = list_below (λ i. get_or ws (place.directions + i) 0 % 256) max_objectives

unfoldable pub ideal_at : List ℕ → List Float
ideal_at ws = list_below (λ i. real (get_or ws (place.ideal + i) 0)) max_objectives

abbrev pub config_at : List ℕ → Config
config_at ws = record {
  edition = edition_of (get_or ws place.edition 0);
  n_obj = get_or ws place.objectives 0;
  directions = marks_at ws;
  divisions = get_or ws place.divisions 0;
  population_size = get_or ws place.size 0;
  crossover_prob = real (get_or ws place.crossover_prob 0);
  crossover_eta = real (get_or ws place.crossover_eta_of 0);
  mutation_eta = real (get_or ws place.mutation_eta_of 0);
  window = then_some (marked (get_or ws place.has_window 0)) (get_or ws place.window 0);
}

abbrev pub progress_at : List ℕ → Progress
progress_at ws =
    progress (get_or ws place.dims 0) (get_or ws place.candidates 0) (get_or ws place.plans 0) (get_or ws place.waiting 0) (get_or ws place.remembered 0)
    (get_or ws place.generation 0)

unfoldable pub session_of : List ℕ → Session
session_of ws = record {
  config = config_at ws;
  phase = phase_of (get_or ws place.phase 0);
  discovery_trial_id = then_some (marked (get_or ws place.has_first 0)) (get_or ws place.first 0);
  rng = record { s = get_or ws place.rng 0 };
  dimensions = dimensions_at ws head_width;
  ideal_point = ideal_at ws;
  progress = progress_at ws;
}
