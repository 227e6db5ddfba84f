-- A plan's values as a row in minimise-space, and the rows of plans one after the other.
use Prim.Native.Nat.{ℕ, ◌+◌, ◌<◌, min}
use mathlib.Core.Path.{◌≡◌, ap, ◌∙◌}
use mathlib.Core.List.{List}
use native.Mathlib.Omega.{arith}
use lib.Ieee.{Float, nan}
use lib.ListN.{length, get_or}
use Rattle.model.specs.Plan.{Plan, max_objectives, plan_of, plan_from}
use Rattle.model.specs.Real.{real}
use Rattle.model.specs.Row.{direction_of, to_minimize, row_of}
use Rattle.list_laws.proofs.Built.{list_below-at}
use Rattle.list_laws.proofs.Rows.{rows_at}
use Rattle.front_laws.specs.Flat.{RowsOf}
use Rattle.plans.proofs.Refused.{words_row}
use Rattle.plan_rows.specs.Filled.{RowsFilled}

-- the plan lies in a slice of words from place `at` on, and has a value at objective j
module _ (marks words : List ℕ) (at j : ℕ) (h : j < max_objectives) (k : j < (plan_from words at).row_length) where
  pub row_at : row_of marks (plan_from words at) j ≡ to_minimize (direction_of (get_or marks j 0)) (real (get_or words (at + 2 + j) 0))
  unfolding row_of plan_of
  row_at =
      ap (to_minimize (direction_of (get_or marks j 0)))
      (ap (λ l. get_or l j nan) (words_row words at) ∙ list_below-at _ (min (get_or words (at + 1) 0) max_objectives) nan j (omega arith))

-- the rows of n plans at a slice's front, entry by entry
pub rows-values : (marks : List ℕ) (plans : ℕ → Plan) (n : ℕ) (old new : List Float) → RowsFilled marks plans n old new → RowsOf marks plans n new
rows-values marks plans n old new e p j = rows_at (λ q. row_of marks (plans q)) n (length marks) nan new old p j e
