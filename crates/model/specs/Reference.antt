-- Document 01, "Reference table". A line (a reference point) is a row of m coordinates, given here by whole numbers with sum H.
use Rattle.std.specs.Prelude.{ℕ, zero, suc, ◌+◌, ◌-◌, ◌*◌, ◌/◌, max, Bool, cond, List, [], ◌∷◌, map, pos, leb, ltb, Float, get_or, Option, None, Some}
use Rattle.std.specs.Float.{nan}
use Rattle.model.specs.Lists.{join_below, first_below}
use Rattle.model.specs.Real.{◌⊘◌, of_whole}

-- every (d + 1)-tuple of whole numbers with sum `rest`, "first coordinate slowest, rising": each first coordinate, and after it every shorter tuple
unfoldable pub tuples : ℕ → ℕ → List (List ℕ)
tuples zero rest = (rest ∷ []) ∷ []
tuples (suc d) rest = join_below (λ i. map (λ t. i ∷ t) (tuples d (rest - i))) (suc rest)

-- "`das_dennis`: every m-tuple of whole numbers with sum H, .. each listed exactly once"
abbrev pub lattice : ℕ → ℕ → List (List ℕ)
lattice m h = tuples (m - 1) h

-- ".. divided by H": i / H as a double, rounded once
abbrev pub ratio : ℕ → ℕ → Float
ratio h i = of_whole (pos i) ⊘ of_whole (pos h)

unfoldable pub das_dennis : ℕ → ℕ → List (List Float)
das_dennis m h = map (λ t. map (ratio h) t) (lattice m h)

-- coordinate j of line l
abbrev pub line : ℕ → ℕ → ℕ → ℕ → Float
line m h l j = get_or (get_or (das_dennis m h) l []) j nan

-- n over k, factor by factor; each division is exact
unfoldable pub binomial : ℕ → ℕ → ℕ
binomial n zero = 1
binomial n (suc k) = binomial n k * (n - k) / suc k

-- how many lines there are: C(H + m - 1, m - 1)
unfoldable pub point_count : ℕ → ℕ → ℕ
point_count m h = binomial (h + m - 1) (m - 1)

-- at most so many divisions
abbrev pub max_divisions : ℕ
max_divisions = 199

-- the point count of h reaches the target; i stands for h - 1
abbrev pub reaches : ℕ → ℕ → ℕ → Bool
reaches m target i = leb target (point_count m (suc i))

-- "`auto_divisions` gives the first h from 1 to 199 whose point count reaches the target, else 12"
unfoldable pub auto_divisions : ℕ → ℕ → ℕ
auto_divisions m target = let i = first_below (reaches m target) max_divisions in cond (ltb i max_divisions) (suc i) 12

-- what is given, or else
abbrev pub or_else : Option ℕ → ℕ → ℕ
or_else None d = d
or_else (Some n) d = n

-- the divisions that a session uses: those given, or automatic ones; "target is the size given, or 100"
unfoldable pub divisions_of : ℕ → Option ℕ → Option ℕ → ℕ
divisions_of m size divisions = or_else divisions (auto_divisions m (or_else size 100))

-- "Population size: the size given, else the point count; never under 4."
unfoldable pub population_size_of : ℕ → Option ℕ → Option ℕ → ℕ
population_size_of m size divisions = max 4 (or_else size (point_count m (divisions_of m size divisions)))
