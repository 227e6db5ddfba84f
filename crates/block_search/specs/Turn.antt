-- The search for the nearest lines of a block of plans, line by line.
use Rattle.std.specs.Prelude.{ℕ, ◌+◌, ◌≤◌, ◌<◌, ◌≡◌, Bool, not, cond, ◌&&◌, List, Float, get_or}
use Rattle.std.specs.Float.{nan}
use Rattle.std.specs.Float.Ieee.{lt}
use Rattle.model.specs.declared.Edition.{Edition}
use Rattle.model.specs.Lists.{list_below, over}
use Rattle.model.specs.Real.{◌⊗◌}
use Rattle.model.specs.Association.{measure_of, distance}
use Rattle.association_laws.specs.Flat.{row_at}
use Rattle.association_laws.specs.Search.{Square, Found}
use Rattle.real_laws.proofs.Roots.Apart.{nearly_one}
use Rattle.columns.specs.Block.{plan_at}

-- s is below q, but not by one part in 2 ^ 30
abbrev pub close_to : Float → Float → Bool
close_to s q = lt s q && not (lt s (q ⊗ nearly_one))

abbrev pub close_at : List Float → List Float → ℕ → Bool
close_at squares best b = close_to (get_or squares b nan) (get_or best b nan)

-- the distance of plan b of the block from line l of a table
abbrev pub block_distance : Edition → List Float → ℕ → ℕ → List Float → ℕ → ℕ → Float
block_distance e x m len table b l = distance e m (plan_at x len b) (row_at table m l)

-- after n lines, each plan has its line and the square of its distance
pub record FoundAll (e : Edition) (d : ℕ → ℕ → Float) (n len : ℕ) (lines : List ℕ) (best : List Float) : Type 0 where
  pub at : (b : ℕ) → b < len → Found e (d b) n (get_or lines b 0) (get_or best b nan)

-- the squares of each plan's distance from line n
pub record Next (e : Edition) (d : ℕ → Float) (n : ℕ) (s : Float) : Type 0 where
  pub square : Square s
  pub measured : measure_of e s ≡ d n

pub record NextAll (e : Edition) (d : ℕ → ℕ → Float) (n len : ℕ) (squares : List Float) : Type 0 where
  pub at : (b : ℕ) → b < len → Next e (d b) n (get_or squares b nan)

-- line n has been tried for the first i plans
pub record Turned (e : Edition) (d : ℕ → ℕ → Float) (n len i : ℕ) (lines : List ℕ) (best : List Float) : Type 0 where
  pub done : (b : ℕ) → b < i → Found e (d b) (n + 1) (get_or lines b 0) (get_or best b nan)
  pub rest : (b : ℕ) → i ≤ b → b < len → Found e (d b) n (get_or lines b 0) (get_or best b nan)

-- what the lesser square leaves
abbrev pub less_at : List Float → List Float → ℕ → Bool
less_at squares best b = lt (get_or squares b nan) (get_or best b nan)

abbrev pub line_less : ℕ → List Float → List ℕ → List Float → ℕ → ℕ
line_less n squares lines best b = cond (less_at squares best b) n (get_or lines b 0)

abbrev pub square_less : List Float → List Float → ℕ → Float
square_less squares best b = cond (less_at squares best b) (get_or squares b nan) (get_or best b nan)

pub record KeptLess (n : ℕ) (squares : List Float) (len : ℕ) (lines₀ lines : List ℕ) (best₀ best : List Float) : Type 0 where
  pub line : lines ≡ over (list_below (line_less n squares lines₀ best₀) len) lines₀
  pub square : best ≡ over (list_below (square_less squares best₀) len) best₀
