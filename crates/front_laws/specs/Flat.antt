-- A pool as flat lists: rows of m entries one after the other, and for each plan whether it is feasible and its violation sum.
use Rattle.std.specs.Prelude.{ℕ, ◌+◌, ◌*◌, ◌≤◌, ◌<◌, ◌≡◌, Bool, false, List, Float, length, get_or}
use Rattle.std.specs.Float.{nan}
use Rattle.std.specs.Float.Ieee.{lt}
use Rattle.model.specs.Plan.{Plan}
use Rattle.model.specs.Row.{row_of, dominates, by_feasibility, feasible, violation}
use Rattle.front_laws.specs.Strict.{Known}

-- the entries of a list from `at` on, and row p, which starts at p * m
abbrev pub from : List Float → ℕ → ℕ → Float
from l at j = get_or l (at + j) nan

abbrev pub row_at : List Float → ℕ → ℕ → ℕ → Float
row_at rows m p j = from rows (p * m) j

-- plan p dominates plan q by rows only
abbrev pub flat_dominates : List Float → ℕ → ℕ → ℕ → Bool
flat_dominates rows m p q = dominates m (row_at rows m p) (row_at rows m q)

-- plan p dominates plan q under the constraint rule
unfoldable pub flat_beats : List Float → ℕ → List Bool → List Float → ℕ → ℕ → Bool
flat_beats rows m feasible violations p q =
    by_feasibility (get_or feasible p false) (get_or feasible q false) (lt (get_or violations p nan) (get_or violations q nan)) (flat_dominates rows m p q)

-- the lists have n plans
pub record Pool (rows : List Float) (m : ℕ) (feasible : List Bool) (violations : List Float) (n : ℕ) : Type 0 where
  pub table : n * m ≤ length rows
  pub flags : n ≤ length feasible
  pub sums : n ≤ length violations

-- plans p and q stand in the lists
abbrev pub Within : List Float → ℕ → List Bool → List Float → ℕ → ℕ → Type 0
Within rows m feasible violations p q =
    (p * m + m ≤ length rows) × (q * m + m ≤ length rows)
    × (p < length feasible) × (q < length feasible) × (p < length violations) × (q < length violations)

-- none of the n rows has a NaN
abbrev pub KnownRows : List Float → ℕ → ℕ → Type 0
KnownRows rows m n = (p : ℕ) → p < n → Known m (row_at rows m p)

-- nor has any of n plans
abbrev pub KnownPlans : List ℕ → (ℕ → Plan) → ℕ → Type 0
KnownPlans marks plans n = (p : ℕ) → p < n → Known (length marks) (row_of marks (plans p))

-- ---- the flat lists of n plans

-- the rows are those of the plans
abbrev pub RowsOf : List ℕ → (ℕ → Plan) → ℕ → List Float → Type 0
RowsOf marks plans n rows = (p j : ℕ) → p < n → j < length marks → row_at rows (length marks) p j ≡ row_of marks (plans p) j

-- and so are the flags and the violation sums
pub record FlatOf (marks : List ℕ) (plans : ℕ → Plan) (n : ℕ) (rows : List Float) (flags : List Bool) (sums : List Float) : Type 0 where
  pub rows_of : RowsOf marks plans n rows
  pub flags_of : (p : ℕ) → p < n → get_or flags p false ≡ feasible (plans p).constraints
  pub sums_of : (p : ℕ) → p < n → get_or sums p nan ≡ violation (plans p).constraints
