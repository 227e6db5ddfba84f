-- A plan of either edition, by how far its reader gets.
use Prim.Native.Nat.{ℕ}
use mathlib.Core.Path.{◌≡◌}
use mathlib.Core.Bool.{true, false}
use mathlib.Core.List.{List}
use Rattle.std.specs.Prelude.{None, Option, Some}
use lib.ListN.{drop}
use Rattle.model.specs.PoolFile.{number, many, rows, plan, measured, setting, numbered}
use Rattle.pool_plans.specs.Blocks.{Reads, Block, BlockIs}
use Rattle.pool_settings.specs.Passing.{PassedIs}
use Rattle.pool_settings.proofs.Passed.{Number}
use Rattle.pool_editions.specs.Editions.{plan_second, EntryIs}

-- the first edition's plan is its rows
pub first_entry : (file : List ℕ) (at m base : ℕ) (l o : List ℕ) (r : Option ℕ) → BlockIs file at m base l o r → EntryIs false file at m base l o r
unfolding plan
first_entry file at m base l o (Some next) w = record { value = measured m w.value; reads = rw w.reads; stored = w.stored }
first_entry file at m base l o None w = rw w

-- ---- the second edition's

module _ (file : List ℕ) (at m base : ℕ) (l : List ℕ) where
  pub no_number : number (drop at file) ≡ None → plan_second m (drop at file) ≡ None
  unfolding plan_second numbered
  no_number n = rw n

  module _ {v p : ℕ} (a : Number file at v p) where
    pub no_rows : rows m (drop p file) ≡ None → plan_second m (drop at file) ≡ None
    unfolding plan_second numbered
    no_rows n = rw (a.is, n)

    module _ (o : List ℕ) {q : ℕ} (b : Reads (rows m) (λ t. Block base l o (measured m t)) file p q) where
      pub no_count : number (drop q file) ≡ None → plan_second m (drop at file) ≡ None
      unfolding plan_second numbered
      no_count n = rw (a.is, b.reads, n)

      -- what the settings answer is answered
      pub second-entry : {c next : ℕ} → Number file q c next → (r : Option ℕ) → PassedIs (many c setting) file next r → EntryIs true file at m base l o r
      unfolding plan_second numbered
      second-entry k (Some stop) w = record { value = measured m b.value; reads = rw (a.is, b.reads, k.is, w.reads); stored = b.stored }
      second-entry k None w = rw (a.is, b.reads, k.is, w)
