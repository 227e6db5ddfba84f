-- The rows of the reference table, one after the other, as the recursion writes them.
use Rattle.std.specs.Prelude.{ℕ, Float}
use mathlib.Core.List.{List, ◌++◌, map, flatten}
use Rattle.model.specs.Reference.{ratio, tuples}

-- the rows that begin with `before` and go on with each tuple, in parts of h
abbrev pub rows : List Float → ℕ → List (List ℕ) → List Float
rows before h ts = flatten (map (λ t. before ++ map (ratio h) t) ts)

-- every row that begins with `before`, has `left` coordinates after the next one, and shares out `rest` of the h divisions
unfoldable pub rows_from : List Float → ℕ → ℕ → ℕ → List Float
rows_from before left rest h = rows before h (tuples left rest)
