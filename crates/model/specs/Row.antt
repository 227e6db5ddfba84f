-- Document 01, "Objective row". A row is a function from an objective's number to a value.
use Rattle.std.specs.Prelude.{ℕ, zero, suc, Bool, true, false, cond, not, ◌&&◌, List, Float, length, get_or}
use Rattle.std.specs.Float.{nan}
use Rattle.std.specs.Float.Ieee.{lt, le, neg}
use Rattle.model.specs.declared.Direction.{Direction}
use Rattle.model.specs.declared.Direction.TheVariants.{Minimize, Maximize}
use Rattle.model.specs.Lists.{any_below, all_in}
use Rattle.model.specs.Real.{nought, sum_to}
use Rattle.model.specs.Plan.{Plan}

-- the direction that a mark stands for, "0 minimise, 1 maximise"; a mark above 1 is refused before it is looked at
abbrev pub direction_of : ℕ → Direction
direction_of zero = Minimize
direction_of (suc k) = Maximize

-- "Maximised values are negated."
abbrev pub to_minimize : Direction → Float → Float
to_minimize Minimize v = v
to_minimize Maximize v = neg v

-- values in minimise-space, for the directions' marks, and a plan's row so
abbrev pub minimised : List ℕ → List Float → ℕ → Float
minimised marks values j = to_minimize (direction_of (get_or marks j 0)) (get_or values j nan)

unfoldable pub row_of : List ℕ → Plan → ℕ → Float
row_of marks plan j = minimised marks plan.row j

-- "`dominates`: nowhere worse, somewhere better", over m objectives
unfoldable pub dominates : ℕ → (ℕ → Float) → (ℕ → Float) → Bool
dominates m a b = not (any_below (λ j. lt (b j) (a j)) m) && any_below (λ j. lt (a j) (b j)) m

-- "feasible (every constraint <= 0; none at all is feasible)"
unfoldable pub feasible : List Float → Bool
feasible cs = all_in (λ c. le c nought) cs

-- "the left-to-right sum of max(c, 0)"
abbrev pub excess : Float → Float
excess c = cond (lt nought c) c nought

unfoldable pub violation : List Float → Float
violation cs = sum_to (λ i. excess (get_or cs i nan)) (length cs)

-- "`constrained_dominates`: feasible .. beats infeasible; two infeasible compare the .. sum .., smaller wins; two feasible compare rows."
abbrev pub by_feasibility : Bool → Bool → Bool → Bool → Bool
by_feasibility true false less_violation row_dominates = true
by_feasibility false true less_violation row_dominates = false
by_feasibility false false less_violation row_dominates = less_violation
by_feasibility true true less_violation row_dominates = row_dominates

unfoldable pub constrained_dominates : ℕ → (ℕ → Float) → List Float → (ℕ → Float) → List Float → Bool
constrained_dominates m a ca b cb = by_feasibility (feasible ca) (feasible cb) (lt (violation ca) (violation cb)) (dominates m a b)

-- ---- of two plans of a pool

-- plan p dominates plan q by rows only, and under the constraint rule
unfoldable pub row_beats : List ℕ → (ℕ → Plan) → ℕ → ℕ → Bool
row_beats marks plans p q = dominates (length marks) (row_of marks (plans p)) (row_of marks (plans q))

unfoldable pub beats : List ℕ → (ℕ → Plan) → ℕ → ℕ → Bool
beats marks plans p q =
    constrained_dominates (length marks) (row_of marks (plans p)) (plans p).constraints (row_of marks (plans q)) (plans q).constraints
