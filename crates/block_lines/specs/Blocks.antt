-- What a block of plans leaves in the lists of all plans.
use Rattle.std.specs.Prelude.{ℕ, ◌+◌, ◌≡◌, List, Float, get_or}
use Rattle.std.specs.Float.{nan}
use Rattle.std.proofs.lemmas.List.Edits.{sets}
use Rattle.model.specs.declared.Edition.{Edition}
use Rattle.model.specs.Lists.{list_below}
use Rattle.model.specs.Association.{measure_of}
use Rattle.association_laws.specs.Flat.{nearest_at}

-- the lines of len plans, and the distances of their squares, from place `start` on
pub record Handed (e : Edition) (near : List ℕ) (best : List Float) (start len : ℕ) (lines₀ lines : List ℕ) (distances₀ distances : List Float) : Type 0 where
  pub line : lines ≡ sets lines₀ start (list_below (λ b. get_or near b 0) len)
  pub distance : distances ≡ sets distances₀ start (list_below (λ b. measure_of e (get_or best b nan)) len)

-- the nearest lines of len plans from plan `start` on, and their distances
pub record NearestBlock (e : Edition) (points : List Float) (m : ℕ) (table : List Float) (k start len : ℕ) (lines₀ lines : List ℕ) (distances₀ distances : List Float) : Type 0 where
  pub line : lines ≡ sets lines₀ start (list_below (λ b. (nearest_at e points m table k (start + b)).line) len)
  pub distance : distances ≡ sets distances₀ start (list_below (λ b. (nearest_at e points m table k (start + b)).distance) len)
