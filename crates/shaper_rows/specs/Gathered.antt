-- The marked plans of a pool by themselves: their places, their rows, and what is worked out for them back at their places.
use Rattle.std.specs.Prelude.{ℕ, ◌≡◌, Bool, cond, List, Float, length, get_or}
use Rattle.std.specs.Float.{nan}
use Rattle.model.specs.Lists.{keep_below, list_below, over}
use Rattle.model.specs.Real.{infinity}
use Rattle.model.specs.Kept.{without_line}
use Rattle.shapers.specs.Marked.{marked}

-- the places of the marked plans among the first n, and how many come before plan p
abbrev pub places_of : List Bool → ℕ → List ℕ
places_of marks n = keep_below (marked marks) n

abbrev pub earlier : List Bool → ℕ → ℕ
earlier marks p = length (places_of marks p)

-- what is listed for the marked plans alone, for plan p: its line, or that it has none; and its distance, infinity where it has no line
abbrev pub line_from : List Bool → List ℕ → ℕ → ℕ
line_from marks from p = cond (marked marks p) (get_or from (earlier marks p) 0) without_line

abbrev pub distance_from : List Bool → List Float → ℕ → Float
distance_from marks from p = cond (marked marks p) (get_or from (earlier marks p) nan) infinity

-- that for each of n plans, at the front of two slices
pub record Spreads (marks : List Bool) (n : ℕ) (from_lines : List ℕ) (from_distances : List Float) (lines₀ lines : List ℕ) (distances₀ distances : List Float) : Type 0 where
  pub line : lines ≡ over (list_below (line_from marks from_lines) n) lines₀
  pub distance : distances ≡ over (list_below (distance_from marks from_distances) n) distances₀
