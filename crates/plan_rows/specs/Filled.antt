-- A pool of good plans, and what the lists hold that its plans are read into.
use Rattle.std.specs.Prelude.{ℕ, ◌*◌, ◌≤◌, ◌≡◌, Bool, true, List, Float, length, set}
use Rattle.std.proofs.lemmas.List.Edits.{sets}
use Rattle.model.specs.Lists.{list_below, over}
use Rattle.model.specs.Plan.{Plan, plan_at, plan_count, max_objectives}
use Rattle.model.specs.Row.{row_of, feasible, violation}
use Rattle.model.specs.Refusal.{max_pool, good_plans}
use Rattle.list_laws.specs.Rows.{flat_rows}

-- a pool of words within its limits, whose plans pass refusal 8
pub record GoodPool (pool marks : List ℕ) : Type 0 where
  pub few : plan_count pool ≤ max_pool
  pub narrow : length marks ≤ max_objectives
  pub good : good_plans (length marks) (plan_at pool) (plan_count pool) ≡ true

-- row p is the plan's, in minimise-space, and every other entry is as it was
abbrev pub RowAt : List ℕ → Plan → ℕ → List Float → List Float → Type 0
RowAt marks plan p old new = new ≡ sets old (p * length marks) (list_below (row_of marks plan) (length marks))

-- the rows of n plans one after the other, and what lies past them as it was
abbrev pub RowsFilled : List ℕ → (ℕ → Plan) → ℕ → List Float → List Float → Type 0
RowsFilled marks plans n old new = new ≡ over (flat_rows (λ p. row_of marks (plans p)) n (length marks)) old

-- whether a plan is feasible, and its violation sum, at its place
pub record ConstraintsAt (plan : Plan) (p : ℕ) (flags₀ flags : List Bool) (sums₀ sums : List Float) : Type 0 where
  pub feasibility : flags ≡ set flags₀ p (feasible plan.constraints)
  pub violations : sums ≡ set sums₀ p (violation plan.constraints)

-- whether each of n plans is feasible, and its violation sum; what lies past them is as it was
pub record ConstraintsOf (plans : ℕ → Plan) (n : ℕ) (flags₀ flags : List Bool) (sums₀ sums : List Float) : Type 0 where
  pub feasibility : flags ≡ over (list_below (λ p. feasible (plans p).constraints) n) flags₀
  pub violations : sums ≡ over (list_below (λ p. violation (plans p).constraints) n) sums₀
