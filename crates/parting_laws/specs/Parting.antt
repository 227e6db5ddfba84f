-- Document 02, M-105: "Two plans whose squared distances differ in the last bit can share one root, and the one listed first wins." Where the two editions can part.
use Rattle.std.specs.Prelude.{ℕ, ◌<◌, ◌≡◌, Bool, true, false, ◌&&◌, Float}
use Rattle.std.specs.Float.Ieee.{lt, eq}
use Rattle.model.specs.declared.Edition.TheVariants.{First, Second}
use Rattle.model.specs.Numbers.{sqrt_of}
use Rattle.model.specs.Association.{Request, in_edition, objectives, line_count, shapes, intercept_of, normalised, coordinate, squares_of, line_of}

-- every plan shapes the scale in edition 2 too, as where none is infeasible (M-112), and the intercepts of the two editions are the same, as where the plane does
-- not serve (M-102): only then are the same squares compared
pub record SameScale (r : Request) : Type 0 where
  pub shape : (p : ℕ) → p < r.count → shapes (in_edition Second r) p ≡ true
  pub intercepts : (j : ℕ) → j < objectives r → intercept_of (in_edition First r) j ≡ intercept_of (in_edition Second r) j

-- two squares in order that share one root
abbrev pub shared_root : Float → Float → Bool
shared_root x y = lt x y && eq (sqrt_of x) (sqrt_of y)

-- the square of plan p's distance from line l, on the scale of edition 1
abbrev pub square_to : Request → ℕ → ℕ → Float
square_to r p l = squares_of (objectives r) (normalised (in_edition First r) p) (coordinate r l)

-- plan p's line in edition 1
abbrev pub first_line : Request → ℕ → ℕ
first_line r p = line_of (in_edition First r) p

-- a plan of the pool, and two lines from which the squares of its distance share one root
pub record BetweenLines (r : Request) : Type 0 where
  pub plan : ℕ
  pub line : ℕ
  pub other : ℕ
  pub in_pool : plan < r.count
  pub in_table : line < line_count r
  pub other_in_table : other < line_count r
  pub shared : shared_root (square_to r plan line) (square_to r plan other) ≡ true

-- two plans of the pool on one line, the squares of whose distances from it share one root
pub record OnOneLine (r : Request) : Type 0 where
  pub plan : ℕ
  pub other : ℕ
  pub in_pool : plan < r.count
  pub other_in_pool : other < r.count
  pub same_line : first_line r plan ≡ first_line r other
  pub shared : shared_root (square_to r plan (first_line r plan)) (square_to r other (first_line r plan)) ≡ true
