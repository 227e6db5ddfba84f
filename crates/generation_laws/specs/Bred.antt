-- The offspring of a kept list, as the code comes to them.
use Rattle.std.specs.Prelude.{ℕ, List, get_or, take}
use Rattle.model.specs.declared.ParamValue.{ParamValue}
use Rattle.model.specs.Draw.{Drawn}
use Rattle.model.specs.Plan.{plan_at}
use Rattle.model.specs.Setting.{Operators, bred_of}

-- the rank of the i-th kept plan, from each plan's front
abbrev pub rank_at : List ℕ → List ℕ → ℕ → ℕ
rank_at fronts kept i = get_or fronts (get_or kept i 0) 0

-- bred from the plans at the first places of a kept list
unfoldable pub bred_of_words : Operators → List ℕ → List ℕ → List ℕ → ℕ → ℕ → Drawn (List (List ParamValue))
bred_of_words o pool fronts kept size s = bred_of o (plan_at pool) (rank_at fronts kept) (take size kept) size s
