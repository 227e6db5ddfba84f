-- A sorted pool, in the words of its request.
use Rattle.std.specs.Prelude.{ℕ, ◌*◌, ◌≤◌, ◌≡◌, List, Float, length, take}
use Rattle.model.specs.Lists.{over}
use Rattle.model.specs.Front.{listing, front_list}
use Rattle.model.specs.Plan.{Plan}
use Rattle.model.specs.Association.{Request, dominance}
use Rattle.front_laws.specs.Flat.{RowsOf}
use Rattle.front_cut.specs.declared.Cut.{Cut}
use Rattle.front_cut.proofs.Kept.{CutsAt}

-- the rows of n plans in minimise-space, one after the other
pub record RowsIn (marks : List ℕ) (plans : ℕ → Plan) (n : ℕ) (rows : List Float) : Type 0 where
  pub table : n * length marks ≤ length rows
  pub values : RowsOf marks plans n rows

-- the plans listed front by front, and where the whole fronts and the split one end
pub record OrderIn (r : Request) (order : List ℕ) (c : Cut) : Type 0 where
  pub places : r.count ≤ length order
  pub listed : take r.count order ≡ listing (dominance r) r.count r.count
  pub cut : CutsAt r order c

-- that, with each plan's front in a lent slice
pub record Sorts (r : Request) (o : List ℕ) (c : Cut) (fronts₀ fronts : List ℕ) : Type 0 where
  pub order : OrderIn r o c
  pub ranks : fronts ≡ over (front_list (dominance r) r.count) fronts₀
