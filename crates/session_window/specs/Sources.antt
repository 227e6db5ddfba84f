-- The plans that a generation's own part of the ideal comes from, told by the lines that its selection hands out (document 02, M-109 and M-112).
use Rattle.std.specs.Prelude.{ℕ, Bool, cond, not, ◌||◌, List, eqb, Float, get_or}
use Rattle.std.specs.Float.Ieee.{lt}
use Rattle.model.specs.Lists.{any_below, keep_below}
use Rattle.model.specs.Plan.{plan_at, plan_count}
use Rattle.model.specs.Row.{row_of}
use Rattle.model.specs.Association.{least_from}
use Rattle.model.specs.Kept.{without_line}

-- a plan has a line
abbrev pub has_line : List ℕ → ℕ → Bool
has_line lines p = not (eqb (get_or lines p 0) without_line)

-- it counts where it has one, or every plan does
abbrev pub counted : Bool → List ℕ → ℕ → Bool
counted every lines p = every || has_line lines p

-- the least so far, and that with one value more where it counts
abbrev pub least_by : Bool → Float → Float → Float
least_by takes v least = cond takes (cond (lt v least) v least) least

-- those of n plans that have a line, or all where none has
abbrev pub sources_of : List ℕ → ℕ → List ℕ
sources_of lines n = keep_below (counted (not (any_below (has_line lines) n)) lines) n

-- the smaller of b and their least at objective j
abbrev pub least_in : List ℕ → List ℕ → List ℕ → Float → ℕ → Float
least_in marks pool lines b j = least_from b (λ p. row_of marks (plan_at pool p) j) (sources_of lines (plan_count pool))
