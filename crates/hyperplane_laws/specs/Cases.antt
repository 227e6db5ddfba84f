-- Small examples of `Hyperplane`, each of which tells a trap from the right reading. `proofs/Cases.antt` proves them by computation. The intercepts of the larger ones
-- were also worked out by a separate program.
use Rattle.std.specs.Prelude.{ℕ, ◌≡◌, true, false, List, [], ◌∷◌, ◌++◌, map, pos, Float, length, get_or}
use Rattle.std.specs.Float.{nan}
use Rattle.model.specs.Lists.{list_below}
use Rattle.model.specs.Real.{◌⊘◌, nought, unit, two, infinity, real, of_whole}
use Rattle.model.specs.Real.{small_span}
use Rattle.model.specs.Hyperplane.{Matrix, Plane, small_weight, asf, plane_of, pivot_row, swapped, intercepts_of, same_extremes, zero_pivot, unbounded_matrix, unbounded_in, low_intercept, beyond_bound}

-- a row of whole numbers
abbrev pub row : List ℕ → List Float
row l = map (λ n. of_whole (pos n)) l

-- a pool as a list of rows, an ideal of zeros, and old intercepts of 2.0
abbrev pub pool : List (List Float) → ℕ → ℕ → Float
pool rows p j = get_or (get_or rows p []) j nan

abbrev pub origin : ℕ → Float
origin j = nought

unfoldable pub plane_for : List (List Float) → ℕ → Plane
plane_for rows m = plane_of (length rows) m (pool rows) origin

unfoldable pub intercepts_for : List (List Float) → ℕ → List Float
intercepts_for rows m = list_below (intercepts_of (length rows) m (pool rows) origin (λ j. two)) m

-- the axis plans of the paper
unfoldable pub axes : List (List Float)
axes = row (1 ∷ 0 ∷ 0 ∷ []) ∷ row (0 ∷ 2 ∷ 0 ∷ []) ∷ row (0 ∷ 0 ∷ 4 ∷ []) ∷ []

-- one whose second step swaps rows
unfoldable pub swaps : List (List Float)
swaps = row (1 ∷ 5 ∷ 9 ∷ []) ∷ row (2 ∷ 8 ∷ 4 ∷ []) ∷ row (2 ∷ 7 ∷ 5 ∷ []) ∷ []

-- one with 9 twice in its first column: the last row of the two would give 0x40281af286bca1ae
unfoldable pub ties : List (List Float)
ties = row (9 ∷ 8 ∷ 3 ∷ []) ∷ row (9 ∷ 1 ∷ 4 ∷ []) ∷ row (5 ∷ 4 ∷ 9 ∷ []) ∷ []

-- one whose known terms, right to left, would give 0x40271745d1745d19
unfoldable pub terms : List (List Float)
terms = row (4 ∷ 6 ∷ 5 ∷ []) ∷ row (6 ∷ 3 ∷ 4 ∷ []) ∷ row (1 ∷ 4 ∷ 8 ∷ []) ∷ []

-- a matrix of two rows, -5 3 | 1 and 5 3 | 1, at nine places a row
unfoldable pub equal : Matrix
equal = (real 0xc014_0000_0000_0000 ∷ of_whole (pos 3) ∷ unit ∷ []) ++ row (0 ∷ 0 ∷ 0 ∷ 0 ∷ 0 ∷ 0 ∷ []) ++ row (5 ∷ 3 ∷ 1 ∷ 0 ∷ 0 ∷ 0 ∷ 0 ∷ 0 ∷ 0 ∷ [])

-- three different extremes in a plane through the ideal
unfoldable pub flat : List (List Float)
flat = row (0 ∷ 2 ∷ 4 ∷ []) ∷ row (0 ∷ 4 ∷ 2 ∷ []) ∷ row (0 ∷ 3 ∷ 3 ∷ []) ∷ []

-- X / 2, X and X, -X, for X = 1.5 * 2^1023
unfoldable pub huge : List (List Float)
huge = (real 0x7fd8_0000_0000_0000 ∷ real 0x7fe8_0000_0000_0000 ∷ []) ∷ (real 0x7fe8_0000_0000_0000 ∷ real 0xffe8_0000_0000_0000 ∷ []) ∷ []

-- 2^-1074, 2^-30, 2^70 and 2^71
abbrev pub least : Float
least = real 1

abbrev pub tiny : Float
tiny = real 0x3e10_0000_0000_0000

abbrev pub large : Float
large = real 0x4450_0000_0000_0000

abbrev pub larger : Float
larger = real 0x4460_0000_0000_0000

pub record Planes : Type 0 where
  -- the plane of the paper through (1,0,0), (0,2,0), (0,0,4), whatever the order of the plans
  pub paper : intercepts_for axes 3 ≡ row (1 ∷ 2 ∷ 4 ∷ [])
  pub paper_in_any_order : intercepts_for (row (0 ∷ 0 ∷ 4 ∷ []) ∷ row (1 ∷ 0 ∷ 0 ∷ []) ∷ row (0 ∷ 2 ∷ 0 ∷ []) ∷ []) 3 ≡ row (1 ∷ 2 ∷ 4 ∷ [])
  -- `asf` is the greatest, not the sum, and 1e-6 divides the values of the other objectives
  pub greatest_not_sum : asf 3 (λ j. get_or (row (9 ∷ 8 ∷ 3 ∷ [])) j nan) origin 0 ≡ of_whole (pos 8) ⊘ small_weight
  -- the first plan with the least asf: (1, 2) and (1, 1) are equal for objective 1
  pub first_extreme : (plane_for (row (1 ∷ 2 ∷ []) ∷ row (1 ∷ 1 ∷ []) ∷ []) 2).extremes ≡ 1 ∷ 0 ∷ []
  -- rows change places, and the intercepts are exact
  pub swap_extremes : (plane_for swaps 3).extremes ≡ 2 ∷ 1 ∷ 0 ∷ []
  pub swap_intercepts : intercepts_for swaps 3 ≡ row (8 ∷ 16 ∷ 16 ∷ [])
  -- of -5 and 5 the first row is the pivot row
  pub first_of_equal : pivot_row 2 equal 0 ≡ 0
  pub first_as_they_stand : pivot_row 2 (swapped 2 equal 0 1) 0 ≡ 0
  pub tie_intercepts : intercepts_for ties 3 ≡ real 0x4028_1af2_86bc_a1af ∷ real 0x405c_a000_0000_0000 ∷ real 0x4030_5b6d_b6db_6db7 ∷ []
  pub left_to_right : intercepts_for terms 3 ≡ real 0x4027_1745_d174_5d17 ∷ real 0x4045_2aaa_aaaa_aaac ∷ real 0x4023_89d8_9d89_d89c ∷ []

-- Where the old intercepts serve, for all objectives: the test named passes, and those shown beside it fail.
pub record Fallbacks : Type 0 where
  -- one plan is both extremes
  pub same : same_extremes (plane_for (row (1 ∷ 1 ∷ []) ∷ []) 2).extremes 2 ≡ true
  pub same_falls : intercepts_for (row (1 ∷ 1 ∷ []) ∷ []) 2 ≡ two ∷ two ∷ []
  -- three plans whose first values are the ideal's
  pub pivot : let p = plane_for flat 3 in (same_extremes p.extremes 3 ≡ false) × (zero_pivot 3 p.matrix ≡ true)
  pub pivot_falls : intercepts_for flat 3 ≡ two ∷ two ∷ two ∷ []
  -- a difference of the elimination is infinite, and its unknown is 0. Such values meet refusal 8.
  pub number : let p = plane_for huge 2 in
      (same_extremes p.extremes 2 ≡ false) × (zero_pivot 2 p.matrix ≡ false) × (unbounded_matrix 2 p.matrix ≡ true) × (unbounded_in p.unknowns 2 ≡ false)
  pub number_falls : intercepts_for huge 2 ≡ two ∷ two ∷ []
  -- an unknown is infinite, and its intercept 0
  pub unknown : let p = plane_for ((least ∷ []) ∷ []) 1 in
      (zero_pivot 1 p.matrix ≡ false) × (unbounded_matrix 1 p.matrix ≡ false) × (unbounded_in p.unknowns 1 ≡ true) × (p.intercepts ≡ nought ∷ [])
  pub unknown_falls : intercepts_for ((least ∷ []) ∷ []) 1 ≡ two ∷ []
  -- an unknown is 0, and its intercept infinite
  pub intercept : let p = plane_for (row (1 ∷ 2 ∷ []) ∷ row (1 ∷ 1 ∷ []) ∷ []) 2 in
      (zero_pivot 2 p.matrix ≡ false) × (unbounded_in p.unknowns 2 ≡ false) × (unbounded_in p.intercepts 2 ≡ true) × (p.intercepts ≡ unit ∷ infinity ∷ [])
  pub intercept_falls : intercepts_for (row (1 ∷ 2 ∷ []) ∷ row (1 ∷ 1 ∷ []) ∷ []) 2 ≡ two ∷ two ∷ []
  -- an intercept of 1e-10 is not above 1e-10
  pub low : let p = plane_for ((small_span ∷ []) ∷ []) 1 in
      (unbounded_in p.intercepts 1 ≡ false) × (low_intercept p.intercepts 1 ≡ true) × (p.intercepts ≡ small_span ∷ [])
  pub low_falls : intercepts_for ((small_span ∷ []) ∷ []) 1 ≡ two ∷ []
  -- 2^71 / 2^-30 exceeds 2^100, and 2^70 / 2^-30 does not
  pub beyond : let p = plane_for ((tiny ∷ []) ∷ (larger ∷ []) ∷ []) 1 in
      (low_intercept p.intercepts 1 ≡ false) × (beyond_bound 2 1 (pool ((tiny ∷ []) ∷ (larger ∷ []) ∷ [])) origin p.intercepts ≡ true)
  pub beyond_falls : intercepts_for ((tiny ∷ []) ∷ (larger ∷ []) ∷ []) 1 ≡ two ∷ []
  pub bound_serves : intercepts_for ((tiny ∷ []) ∷ (large ∷ []) ∷ []) 1 ≡ tiny ∷ []
