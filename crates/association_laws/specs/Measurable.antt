-- A request whose numbers refusal 8 lets pass: every value in minimise-space is a double within 2 ^ 1000 in magnitude, and every entry of the ideal that it
-- starts from such a double or plus infinity.
use Rattle.std.specs.Prelude.{ℕ, ◌<◌, ◌≡◌, true, T, get_or}
use Rattle.std.specs.Float.{nan, binary64}
use Rattle.std.specs.Float.Ieee.{fits}
use Rattle.model.specs.Association.{Request, objectives, value_of}
use Rattle.model.specs.Refusal.{measurable, good_entry}

pub record Measurable (r : Request) : Type 0 where
  pub doubles : (p j : ℕ) → p < r.count → j < objectives r → T (fits binary64 (value_of r p j))
  pub values : (p j : ℕ) → p < r.count → j < objectives r → measurable (value_of r p j) ≡ true
  pub start_doubles : (j : ℕ) → j < objectives r → T (fits binary64 (get_or r.ideal j nan))
  pub start : (j : ℕ) → j < objectives r → good_entry (get_or r.ideal j nan) ≡ true
