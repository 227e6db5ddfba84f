-- What Deb and Jain 2014 ask of a selection's association and niching, and the bound on its normalised rows of documents 01 and 02.
use Rattle.std.specs.Prelude.{ℕ, ◌<◌, ◌≡◌, true, Float}
use Rattle.model.specs.Edition.{greatest_scaled}
use Rattle.model.specs.Real.{nought, within}
use Rattle.model.specs.Papers.DebJain2014.{Associated}
use Rattle.model.specs.Association.{Request, objectives, line_count, shapes, normalised, coordinate, line_of}
use Rattle.model.specs.Kept.{before, is_split, split_front, filled}
use Rattle.association_laws.specs.Paper.{perpendicular_by}
use Rattle.niching_laws.specs.Niching.{ByProcedure}

-- every normalised value of a plan that shapes the scale lies within 0 and the greatest that the edition allows: 1 in edition 1, where every plan shapes it, and
-- 2^100 in edition 2
abbrev pub Scaled : Request → Type 0
Scaled r = (p j : ℕ) → p < r.count → shapes r p ≡ true → j < objectives r → within nought (greatest_scaled r.edition) (normalised r p j) ≡ true

-- what the selection measures by: the perpendicular distance of a point from a line, or in edition 2 its square
abbrev pub measured_by : Request → (ℕ → Float) → (ℕ → Float) → Float
measured_by r = perpendicular_by r.edition (objectives r)

-- so measured, how far plan p is from the line that it is associated with
abbrev pub from_line : Request → ℕ → Float
from_line r p = measured_by r (normalised r p) (coordinate r (line_of r p))

-- each plan that shapes the scale is associated with a line from which its perpendicular distance is least; and where a front is split, the plans picked from it
-- are those of the niching procedure, by each plan's perpendicular distance from its line; in edition 2 both by squares
pub record ByPaper (r : Request) : Type 0 where
  pub associated : (p : ℕ) → p < r.count → shapes r p ≡ true → Associated (measured_by r) (normalised r) (coordinate r) (line_count r) p (line_of r p)
  pub niched : is_split r ≡ true → ByProcedure (before r) (split_front r) (line_of r) (from_line r) (line_count r) (filled r).value
