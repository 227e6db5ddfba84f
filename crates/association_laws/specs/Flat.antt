-- Document 01's association over flat lists, of n plans that all shape the scale: plan p's value at objective j is entry p * m + j of its rows, coordinate j of line l
-- entry l * m + j of its table.
use Rattle.std.specs.Prelude.{ℕ, ◌*◌, ◌<◌, ◌≡◌, true, cond, List, Float, get_or}
use Rattle.std.specs.Float.{nan, inf}
use Rattle.std.specs.Float.Ieee.{lt}
use Rattle.model.specs.declared.Edition.{Edition}
use Rattle.model.specs.Lists.{best_from, list_below, over}
use Rattle.model.specs.Edition.{uses_plane}
use Rattle.model.specs.Real.{◌⊖◌, ◌⊘◌, above}
pub use Rattle.front_laws.specs.Flat.{from, row_at}
use Rattle.model.specs.Association.{intercept_from, dot, distance, Near, nearest_of}
use Rattle.hyperplane_laws.specs.Flat.{plane_intercept_from}

-- the values of objective j, plan by plan
abbrev pub column : List Float → ℕ → ℕ → ℕ → Float
column rows m j p = row_at rows m p j

-- the smaller of b and the least of n plans at objective j, and their greatest
abbrev pub least_below : Float → List Float → ℕ → ℕ → ℕ → Float
least_below b rows n m j = best_from lt b (column rows m j) n

abbrev pub greatest_below : List Float → ℕ → ℕ → ℕ → Float
greatest_below rows n m j = best_from above (inf true) (column rows m j) n

-- the smaller of an ideal's entry j and the least of n plans
abbrev pub least_at : List Float → ℕ → ℕ → List Float → ℕ → Float
least_at rows n m ideal j = least_below (get_or ideal j nan) rows n m j

-- the intercept of objective j: the old one, that of the plane, and the edition's
abbrev pub intercept_at : List Float → ℕ → ℕ → List Float → ℕ → Float
intercept_at rows n m ideal j = intercept_from (greatest_below rows n m j ⊖ get_or ideal j nan)

abbrev pub plane_intercept_at : List Float → ℕ → ℕ → List Float → ℕ → Float
plane_intercept_at rows n m ideal j = plane_intercept_from rows n m ideal (intercept_at rows n m ideal) j

abbrev pub intercept_by : Edition → List Float → ℕ → ℕ → List Float → ℕ → Float
intercept_by e rows n m ideal j = cond (uses_plane e) (plane_intercept_at rows n m ideal j) (intercept_at rows n m ideal j)

-- plan p's normalised value at objective j
abbrev pub normal_at : List Float → ℕ → List Float → List Float → ℕ → ℕ → Float
normal_at rows m ideal intercepts p j = (column rows m j p ⊖ get_or ideal j nan) ⊘ get_or intercepts j nan

-- r·r of line l of a table, and a list that holds it for each of the first n lines
abbrev pub norm_at : List Float → ℕ → ℕ → Float
norm_at table m l = dot m (row_at table m l) (row_at table m l)

abbrev pub NormsIn : List Float → ℕ → List Float → ℕ → Type 0
NormsIn table m norms n = (l : ℕ) → l < n → get_or norms l nan ≡ norm_at table m l

-- the distance of the point at `at` from line l of a table
abbrev pub distance_at : Edition → List Float → ℕ → ℕ → List Float → ℕ → Float
distance_at e points at m table l = distance e m (from points at) (row_at table m l)

-- the line nearest to plan p, and its distance
abbrev pub nearest_at : Edition → List Float → ℕ → List Float → ℕ → ℕ → Near
nearest_at e points m table lines p = nearest_of (distance_at e points (p * m) m table) lines

-- the line and the distance of each of n plans, from k lines, at the front of two slices; what lies past them is as it was
pub record NearestAll (e : Edition) (points : List Float) (m : ℕ) (table : List Float) (k n : ℕ) (lines₀ lines : List ℕ) (distances₀ distances : List Float) : Type 0 where
  pub line : lines ≡ over (list_below (λ p. (nearest_at e points m table k p).line) n) lines₀
  pub distance : distances ≡ over (list_below (λ p. (nearest_at e points m table k p).distance) n) distances₀
