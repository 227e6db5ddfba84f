-- Parts that are a whole's make the whole: of a dimension, an array of eight, and a session.
use Rattle.std.specs.Prelude.{Option}
use Rattle.std.specs.Bool.{then_some}
use Prim.Native.Nat.{ℕ, ◌+◌}
use mathlib.Core.Path.{◌≡◌}
use mathlib.Core.Bool.{Bool}
use mathlib.Core.List.{List, [], ◌∷◌}
use lib.IntN.{ℤ}
use lib.Ieee.{Float}
use lib.ListN.{get_or}
use Rattle.model.specs.declared.Distribution.TheVariants as dist
use Rattle.model.specs.declared.DimensionInfo.{DimensionInfo}
use Rattle.model.specs.declared.Phase.{Phase}
use Rattle.model.specs.declared.Config.{Config}
use Rattle.model.specs.declared.Edition.{Edition}
use Rattle.model.specs.declared.Progress.{Progress}
use Rattle.model.specs.declared.Session.{Session}
use Rattle.model.specs.Real.{real}
use Rattle.model.specs.Setting.{int_of_word}
use Rattle.model.specs.Session.{progress}
use Rattle.session_words.specs.Coding.{marked, distribution_of, dimension_at, eight}

module _ (kind low high log has step : ℕ) where
  pub float_is : (a b : Float) (g : Bool) (o : Option Float) → kind ≡ 0 → a ≡ real low → b ≡ real high → g ≡ marked log → o ≡ then_some (marked has) (real step)
      → dist.Float (record { low = a; high = b; log_scale = g; step = o }) ≡ distribution_of kind low high log has step
  float_is a b g o k p q r t = rw (k, p, q, r, t)

  pub int_is : (a b : ℤ) (g : Bool) (o : Option ℤ) → kind ≡ 1 → a ≡ int_of_word low → b ≡ int_of_word high → g ≡ marked log → o ≡ then_some (marked has) (int_of_word step)
      → dist.Int (record { low = a; high = b; log_scale = g; step = o }) ≡ distribution_of kind low high log has step
  int_is a b g o k p q r t = rw (k, p, q, r, t)

pub dimension_same : (ws : List ℕ) (at : ℕ) (kind low high log has step : ℕ) → kind ≡ get_or ws at 0 → low ≡ get_or ws (at + 1) 0 → high ≡ get_or ws (at + 2) 0 → log ≡ get_or ws (at + 3) 0
    → has ≡ get_or ws (at + 4) 0 → step ≡ get_or ws (at + 5) 0 → distribution_of kind low high log has step ≡ dimension_at ws at
dimension_same ws at kind low high log has step p q r t u v = rw (p, q, r, t, u, v)

pub eight-same : {A : Type 0} (k : ℕ → A) {a b c d e f g h : A} → a ≡ k 0 → b ≡ k 1 → c ≡ k 2 → d ≡ k 3 → e ≡ k 4 → f ≡ k 5 → g ≡ k 6 → h ≡ k 7
    → (a ∷ b ∷ c ∷ d ∷ e ∷ f ∷ g ∷ h ∷ []) ≡ eight k
eight-same k p q r s t u v w = rw (p, q, r, s, t, u, v, w)

pub config-same : (x : Config) (v : Edition) (n : ℕ) (m : List ℕ) (d k : ℕ) (p e u : Float) (w : Option ℕ) → v ≡ x.edition → n ≡ x.n_obj → m ≡ x.directions → d ≡ x.divisions → k ≡ x.population_size
    → p ≡ x.crossover_prob → e ≡ x.crossover_eta → u ≡ x.mutation_eta → w ≡ x.window
    → record { edition = v; n_obj = n; directions = m; divisions = d; population_size = k; crossover_prob = p; crossover_eta = e; mutation_eta = u; window = w } ≡ x
config-same x v n m d k p e u w l a b c f g h i j = rw (l, a, b, c, f, g, h, i, j)

pub progress-same : (x : Progress) (d c n w h g : ℕ) → d ≡ x.n_dims → c ≡ x.n_candidates → n ≡ x.n_plans → w ≡ x.n_waiting → h ≡ x.n_remembered → g ≡ x.generation
    → progress d c n w h g ≡ x
progress-same x d c n w h g p q r s t u = rw (p, q, r, s, t, u)

pub session-same : (x : Session) (c : Config) (p : Phase) (o : Option ℕ) (r : ℕ) (ds : List DimensionInfo) (z : List Float) (g : Progress) → c ≡ x.config → p ≡ x.phase
    → o ≡ x.discovery_trial_id → r ≡ x.rng.s → ds ≡ x.dimensions → z ≡ x.ideal_point → g ≡ x.progress
    → record { config = c; phase = p; discovery_trial_id = o; rng = record { s = r }; dimensions = ds; ideal_point = z; progress = g } ≡ x
session-same x c p o r ds z g a b d e f h i = rw (a, b, d, e, f, h, i)
