-- What is read and passed over.
use Rattle.std.specs.Prelude.{ℕ, ◌^◌, List, Option}
use Rattle.model.specs.Plan.{Setting}
use Rattle.model.specs.PoolFile.{Reader}
use Rattle.pool_plans.specs.Blocks.{ReadsIs}

-- only where it ends is answered
module _ {A : Type 0} where
  abbrev pub PassedIs : Reader A → List ℕ → ℕ → Option ℕ → Type 0
  PassedIs r = ReadsIs r (λ a. Unit {0})

-- the setting that three numbers form
abbrev pub setting_of : ℕ → ℕ → ℕ → Setting
setting_of param kind value = record { param = param; kind = kind; value = value }

-- the greatest word of an Int within 2^53 in magnitude (`int_within`)
abbrev pub max_int_word : ℕ
max_int_word = 2 ^ 54
