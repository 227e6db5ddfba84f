-- A request of documents 01 and 02 in flat lists, with a mark for each plan that shapes the scale; and what its association leaves of every plan.
use Rattle.std.specs.Prelude.{ℕ, ◌<◌, ◌≡◌, Bool, true, List, Float, get_or}
use Rattle.std.specs.Float.{nan}
use Rattle.model.specs.Lists.{list_below, over}
use Rattle.model.specs.Association.{Request, objectives, value_of, shapes, ideal_of, association}
use Rattle.model.specs.Kept.{line_mark}
use Rattle.front_laws.specs.Flat.{row_at}
use Rattle.shapers.specs.Marked.{marked}

-- the request's pool: n plans, m objectives
pub record Shaped (r : Request) (marks : List Bool) (rows : List Float) (n m : ℕ) : Type 0 where
  pub count : n ≡ r.count
  pub width : m ≡ objectives r
  pub values : (p j : ℕ) → p < n → j < m → row_at rows m p j ≡ value_of r p j
  pub who : (p : ℕ) → p < n → marked marks p ≡ shapes r p

-- the ideal moved, each plan's line or that it has none, and the distance of each that has one
pub record Lined (r : Request) (n m : ℕ) (ideal₀ ideal : List Float) (lines₀ lines : List ℕ) (distances : List Float) : Type 0 where
  pub moved : ideal ≡ over (list_below (ideal_of r) m) ideal₀
  pub line : lines ≡ over (list_below (line_mark r) n) lines₀
  pub distance : (p : ℕ) → p < n → shapes r p ≡ true → get_or distances p nan ≡ (association r p).distance
