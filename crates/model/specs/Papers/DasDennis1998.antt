-- Das and Dennis 1998, "Normal-Boundary Intersection": the points of the unit simplex whose coordinates are whole multiples of a spacing 1 / H.
-- A point is written by those multiples, so that its coordinates are whole numbers with sum H.
use Rattle.std.specs.Prelude.{ℕ, ◌+◌, ◌≡◌, length}
use mathlib.Core.List.{List, [], ◌∷◌, Memᴰ, Nodup}

unfoldable pub total : List ℕ → ℕ
total [] = 0
total (i ∷ t) = i + total t

pub record IsPoint (m h : ℕ) (t : List ℕ) : Type 0 where
  pub coordinates : length t ≡ m
  pub on_simplex : total t ≡ h

-- a table of the points: it lists every point, nothing else, and none twice
pub record IsTable (m h : ℕ) (table : List (List ℕ)) : Type 0 where
  pub every : (t : List ℕ) → IsPoint m h t → Memᴰ t table
  pub nothing_else : (t : List ℕ) → Memᴰ t table → IsPoint m h t
  pub once : Nodup table
