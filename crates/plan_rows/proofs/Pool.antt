-- A pool of good plans: what reading it asks holds, and its flat lists give the model's domination.
use Prim.Native.Nat.{ℕ, ◌*◌, ◌≤◌, ◌<◌}
use mathlib.Core.Path.{◌≡◌, ap, ◌∙◌}
use mathlib.Core.Bool.{Bool, true, false}
use mathlib.Core.List.{List}
use native.Mathlib.Omega.{arith}
use lib.Ieee.{Float, nan, is_nan}
use lib.ListN.{length}
use Rattle.model.specs.Plan.{Plan, plan_at, plan_count, max_objectives, max_constraints}
use Rattle.model.specs.Row.{feasible, violation}
use Rattle.model.specs.Refusal.{max_pool, good_plan}
use Rattle.list_laws.proofs.Built.{over_below}
use Rattle.list_laws.proofs.Checks.{good_length, good-constraints}
use Rattle.list_laws.proofs.Limits.{row-values}
use Rattle.list_laws.proofs.Tests.{all_below-each}
use Rattle.front_laws.specs.Flat.{KnownRows, KnownPlans, RowsOf, FlatOf}
use Rattle.front_laws.proofs.Plans.{in_words, words-accepted, accepted_known}
use Rattle.plan_rows.specs.Filled.{GoodPool, ConstraintsOf}

-- ---- a pool of words, of which n are counted

module _ {pool marks : List ℕ} (g : GoodPool pool marks) {n : ℕ} (e : n ≡ plan_count pool) where
  good-at : (p : ℕ) → p < n → good_plan (length marks) (plan_at pool p) ≡ true
  good-at p l = all_below-each (λ q. good_plan (length marks) (plan_at pool q)) (plan_count pool) g.good p (omega (arith, e))

  pub few-plans : n ≤ max_pool
  few-plans = omega (arith, e, g.few)

  -- what `fill_rows` and `fill_constraints` ask, with room for the rows of a pool
  pub rows-asked : ((n ≤ plan_count pool) × (length marks ≤ max_objectives) × (n * length marks ≤ max_pool * max_objectives)) × ((p : ℕ) → p < n → length marks ≤ (plan_at pool p).row_length)
  rows-asked = (
    (omega (arith, e), g.narrow, row-values n (length marks) few-plans g.narrow),
    λ p l. omega (arith, good_length (length marks) (plan_at pool p) (good-at p l)),
  )

  pub pool_constraint_counts : (p : ℕ) → p < n → (plan_at pool p).constraint_count ≤ max_constraints
  pool_constraint_counts p l = good-constraints (length marks) (plan_at pool p) (good-at p l)

  -- no value is a NaN
  pub pool_known : KnownPlans marks (plan_at pool) n
  pool_known p l =
      accepted_known marks (length marks) (plan_at pool p)
      (words-accepted (length marks) (plan_at pool p) g.narrow (in_words _) (good-at p l))

-- ---- flat lists of n plans

module _ (marks : List ℕ) (plans : ℕ → Plan) (n : ℕ) (rows : List Float) (laid : RowsOf marks plans n rows) where
  -- where no plan's value is a NaN, no entry is
  pub rows_known : KnownPlans marks plans n → KnownRows rows (length marks) n
  rows_known known p l j u = ap is_nan (laid p j l u) ∙ known p l j u

  module _ (flags₀ flags : List Bool) (sums₀ sums : List Float) (constraints : ConstraintsOf plans n flags₀ flags sums₀ sums) where
    pub flat-of : FlatOf marks plans n rows flags sums
    flat-of = record {
      rows_of = laid;
      flags_of = λ p l. over_below (λ q. feasible (plans q).constraints) n flags flags₀ p false constraints.feasibility l;
      sums_of = λ p l. over_below (λ q. violation (plans q).constraints) n sums sums₀ p nan constraints.violations l;
    }
