-- A block of plans laid column by column: plan b's value at objective j is entry j * len + b, where the block has len plans.
use Rattle.std.specs.Prelude.{ℕ, ◌+◌, ◌<◌, ◌≡◌, List, Float, get_or}
use Rattle.std.specs.Float.{nan}
use Rattle.model.specs.Real.{◌⊕◌, ◌⊖◌, ◌⊗◌, ◌⊘◌, minus_nought}
use Rattle.model.specs.Numbers.{square}
use Rattle.model.specs.Association.{dot, off_squares, squares_of}
use Rattle.association_laws.specs.Flat.{from, row_at}

-- the most plans of a block
abbrev pub max_block : ℕ
max_block = 128

-- the values of plan b of the block
abbrev pub plan_at : List Float → ℕ → ℕ → ℕ → Float
plan_at x len b j = row_at x len j b

-- objective j of the plans from `start` on, plan by plan
abbrev pub laid : List Float → ℕ → ℕ → ℕ → ℕ → Float
laid points m start j b = row_at points m (start + b) j

-- one product more, one quotient and one square more of each plan of the block
abbrev pub product_more : List Float → List Float → ℕ → Float → ℕ → Float
product_more sums x at r b = get_or sums b nan ⊕ (from x at b ⊗ r)

abbrev pub quotient : List Float → Float → ℕ → Float
quotient sums norm b = get_or sums b nan ⊘ norm

abbrev pub square_more : List Float → List Float → ℕ → Float → List Float → ℕ → Float
square_more sums x at r t b = get_or sums b nan ⊕ square (from x at b ⊖ (get_or t b nan ⊗ r))

-- what a list holds of each of the block's plans
pub record Each (len : ℕ) (l : List Float) (f : ℕ → Float) : Type 0 where
  pub at : (b : ℕ) → b < len → get_or l b nan ≡ f b

-- sums that nothing has been added to yet
abbrev pub Empty : ℕ → List Float → Type 0
Empty len l = Each len l (λ b. minus_nought)

-- each plan's p·r
abbrev pub Dots : List Float → ℕ → ℕ → (ℕ → Float) → List Float → Type 0
Dots x m len r l = Each len l (λ b. dot m (plan_at x len b) r)

-- what is left of each plan once t times the line is taken away, squared
abbrev pub OffSquares : List Float → ℕ → ℕ → (ℕ → Float) → List Float → List Float → Type 0
OffSquares x m len r t l = Each len l (λ b. off_squares m (plan_at x len b) r (get_or t b nan))

-- the square of each plan's distance from the line
abbrev pub LineSquares : List Float → ℕ → ℕ → (ℕ → Float) → List Float → Type 0
LineSquares x m len r l = Each len l (λ b. squares_of m (plan_at x len b) r)
