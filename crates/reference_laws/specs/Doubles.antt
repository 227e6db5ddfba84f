-- The reference table in doubles, against Das and Dennis's table in whole numbers.
use Rattle.std.specs.Prelude.{ℕ, ◌≤◌, ◌<◌, ◌≡◌, T}
use mathlib.Core.List.{map, Nodup}
use Rattle.std.specs.Float.Ieee.{lt}
use Rattle.model.specs.Reference.{lattice, ratio, das_dennis}
use Rattle.model.specs.Papers.DasDennis1998.{IsTable}

pub record TableOfDoubles (m h : ℕ) : Type 0 where
  -- the whole numbers are the paper's table
  pub points : IsTable m h (lattice m h)
  -- the table of doubles is its image, i / h for each coordinate i
  pub image : das_dennis m h ≡ map (λ t. map (ratio h) t) (lattice m h)
  -- in which a greater coordinate stays the greater
  pub rising : (i j : ℕ) → i < j → j ≤ h → T (lt (ratio h i) (ratio h j))
  -- and no line is listed twice
  pub once : Nodup (das_dennis m h)
