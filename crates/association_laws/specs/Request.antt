-- A request of document 01 in flat lists: what they hold before its association and after it.
use Rattle.std.specs.Prelude.{ℕ, ◌<◌, ◌≡◌, true, List, Float, length, get_or}
use Rattle.std.specs.Float.{nan}
use Rattle.model.specs.Lists.{list_below, over}
use Rattle.model.specs.declared.Edition.{Edition}
use Rattle.model.specs.Edition.{greatest_scaled}
use Rattle.model.specs.Real.{nought, within}
use Rattle.front_laws.specs.Flat.{row_at}
use Rattle.model.specs.Association.{Request, objectives, value_of, shapers, ideal_of, intercept_of, normalised, coordinate, association, line_of}

-- the i-th of the plans that shape the scale
abbrev pub shaper_at : Request → ℕ → ℕ
shaper_at r i = get_or (shapers r) i 0

-- the rows of the request's plans that shape the scale, one after the other: n plans, m objectives
pub record ShapersIn (r : Request) (rows : List Float) (n m : ℕ) : Type 0 where
  pub count : n ≡ length (shapers r)
  pub width : m ≡ objectives r
  pub values : (i j : ℕ) → i < n → j < m → row_at rows m i j ≡ value_of r (shaper_at r i) j

-- lists that hold what is said of each objective, plan or line
abbrev pub StartIn : Request → List Float → ℕ → Type 0
StartIn r ideal m = (j : ℕ) → j < m → get_or ideal j nan ≡ get_or r.ideal j nan

abbrev pub IdealIn : Request → List Float → ℕ → Type 0
IdealIn r ideal m = (j : ℕ) → j < m → get_or ideal j nan ≡ ideal_of r j

abbrev pub InterceptsIn : Request → List Float → ℕ → Type 0
InterceptsIn r intercepts m = (j : ℕ) → j < m → get_or intercepts j nan ≡ intercept_of r j

abbrev pub NormalisedIn : Request → List Float → ℕ → ℕ → Type 0
NormalisedIn r normalized n m = (i j : ℕ) → i < n → j < m → row_at normalized m i j ≡ normalised r (shaper_at r i) j

abbrev pub LinesIn : Request → List Float → ℕ → ℕ → Type 0
LinesIn r table k m = (l j : ℕ) → l < k → j < m → row_at table m l j ≡ coordinate r l j

-- flat rows whose values all lie within 0 and the greatest that the edition allows: 1 in edition 1, 2 ^ 100 in edition 2
abbrev pub InScale : Edition → List Float → ℕ → ℕ → Type 0
InScale e normalized n m = (p j : ℕ) → p < n → j < m → within nought (greatest_scaled e) (row_at normalized m p j) ≡ true

-- the ideal moved, and the line of each plan that shapes the scale and its distance from it; what lies past them in a lent slice is as it was
pub record Associates (r : Request) (n m : ℕ) (ideal₀ ideal : List Float) (lines₀ lines : List ℕ) (distances₀ distances : List Float) : Type 0 where
  pub moved : ideal ≡ over (list_below (ideal_of r) m) ideal₀
  pub nearest : lines ≡ over (list_below (λ i. line_of r (shaper_at r i)) n) lines₀
  pub distance : distances ≡ over (list_below (λ i. (association r (shaper_at r i)).distance) n) distances₀
