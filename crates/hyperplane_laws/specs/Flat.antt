-- The plane over flat lists: plan p's value at objective j is entry p * m + j of its rows.
use Rattle.std.specs.Prelude.{ℕ, ◌≡◌, Bool, List, Float, get_or}
use Rattle.std.specs.Float.{nan}
use Rattle.model.specs.Lists.{over}
pub use Rattle.front_laws.specs.Flat.{row_at}
use Rattle.model.specs.Hyperplane.{Matrix, Plane, extreme, plane_row, plane_of, falls_back, intercepts_of}

-- the entries of a list
abbrev pub listed : List Float → ℕ → Float
listed l j = get_or l j nan

abbrev pub extreme_at : List Float → ℕ → ℕ → List Float → ℕ → ℕ
extreme_at rows n m ideal i = extreme n m (row_at rows m) (listed ideal) i

-- row p, as a row of the matrix
abbrev pub plane_row_at : List Float → ℕ → List Float → ℕ → ℕ → Float
plane_row_at rows m ideal p j = plane_row m (row_at rows m p) (listed ideal) j

abbrev pub plane_at : List Float → ℕ → ℕ → List Float → Plane
plane_at rows n m ideal = plane_of n m (row_at rows m) (listed ideal)

-- a plane whose parts are at hand
abbrev pub plane_in : List ℕ → Matrix → List Float → List Float → Plane
plane_in extremes a x y = record { extremes = extremes; matrix = a; unknowns = x; intercepts = y }

-- the intercepts of edition 2, from the old ones
abbrev pub plane_intercept_from : List Float → ℕ → ℕ → List Float → (ℕ → Float) → ℕ → Float
plane_intercept_from rows n m ideal old j = intercepts_of n m (row_at rows m) (listed ideal) old j

-- what working out the plane hands out: its intercepts, and whether the old ones serve instead
pub record Worked (rows : List Float) (n m : ℕ) (ideal out₀ out : List Float) (falls : Bool) : Type 0 where
  pub intercepts : out ≡ over (plane_at rows n m ideal).intercepts out₀
  pub test : falls ≡ falls_back n m (row_at rows m) (listed ideal) (plane_at rows n m ideal)
