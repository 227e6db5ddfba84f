-- What the steps of a selection hand to one another, in the words of its request.
use Rattle.std.specs.Prelude.{ℕ, ◌≡◌, List, Float}
use Rattle.model.specs.Lists.{over}
use Rattle.model.specs.Association.{Request}
use Rattle.model.specs.Kept.{Selected}
use Rattle.front_cut.specs.declared.Cut.{Cut}
use Rattle.nsga3_laws.specs.Admitted.{Admitted}
use Rattle.pool_sort.specs.Laid.{RowsIn, OrderIn}

-- a pool within its limits, with slices of these lengths for the kept list, its rules and the lines, and one for the fronts: its rows, and its plans listed front by front
pub record SortedPool (r : Request) (kept rules lines : ℕ) (rows : List Float) (order : List ℕ) (c : Cut) : Type 0 where
  pub fronts : ℕ
  pub limits : Admitted r (record { kept = kept; rules = rules; fronts = fronts; lines = lines })
  pub laid : RowsIn r.marks r.plans r.count rows
  pub listed : OrderIn r order c

-- what is handed out beside the fronts
pub record Hands (sel : Selected) (i : List Float) (k₀ k u₀ u l₀ l : List ℕ) (s : ℕ) : Type 0 where
  pub ideal : i ≡ sel.ideal
  pub kept : k ≡ over sel.kept k₀
  pub rules : u ≡ over sel.rules u₀
  pub lines : l ≡ over sel.lines l₀
  pub state : s ≡ sel.state
