-- A plan of either edition, read into the plan that it stands for, and what the readers of plans answer and store.
use Rattle.std.specs.Prelude.{ℕ, Bool, true, false, List, Option, Some}
use Rattle.model.specs.Plan.{Plan}
use Rattle.model.specs.PoolFile.{Reader, pure, many, plan, measured, numbered, ◌>>=◌}
use Rattle.pool_plans.specs.Blocks.{ReadsIs, Block, Blocks}

-- a plan of the second edition, its number and its settings passed over
unfoldable pub plan_second : ℕ → Reader Plan
plan_second m = do
  p ← numbered m
  pure (measured m p.rows)

-- .. of the second edition or of the first
abbrev pub plan_in : Bool → ℕ → Reader Plan
plan_in true m = plan_second m
plan_in false m = plan m

-- the plan stands in the block of words at `base`
abbrev pub EntryIs : Bool → List ℕ → ℕ → ℕ → ℕ → List ℕ → List ℕ → Option ℕ → Type 0
EntryIs second file at m base before after = ReadsIs (plan_in second m) (Block base before after) file at

-- n plans stand in their blocks
abbrev pub PlansIs : Bool → List ℕ → ℕ → ℕ → ℕ → List ℕ → Option ℕ → Type 0
PlansIs second file at m n after = ReadsIs (many n (plan_in second m)) (Blocks n after) file at

abbrev pub Plans : Bool → List ℕ → ℕ → ℕ → ℕ → List ℕ → ℕ → Type 0
Plans second file at m n after next = PlansIs second file at m n after (Some next)
