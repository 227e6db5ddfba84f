-- A pool's flat lists as they are handed on: how many plans they have, and which plan dominates which.
use Rattle.std.specs.Prelude.{ℕ, Bool}
use Rattle.front_laws.specs.Flat.{flat_beats, Pool, Within}
use Rattle.domination.specs.declared.FlatPool.{FlatPool}

-- the lists have n plans
abbrev pub Plans : FlatPool → ℕ → Type 0
Plans pool n = Pool pool.rows.now pool.m pool.feasible.now pool.violations.now n

-- plans p and q stand in the lists
abbrev pub Both : FlatPool → ℕ → ℕ → Type 0
Both pool p q = Within pool.rows.now pool.m pool.feasible.now pool.violations.now p q

-- plan p dominates plan q under the constraint rule
abbrev pub beats : FlatPool → ℕ → ℕ → Bool
beats pool = flat_beats pool.rows.now pool.m pool.feasible.now pool.violations.now
