-- A text that is written piece by piece into a slice which may get full.
use Rattle.std.specs.Prelude.{ℕ, ◌≤◌, ◌<◌, ◌≡◌, ◌⊎◌, List, ◌++◌, length, take}

-- the text stands whole at the slice's front, and ends at `at`
pub record Whole (text out : List ℕ) (at : ℕ) : Type 0 where
  pub ends : at ≡ length text
  pub within : length text ≤ length out
  pub stands : take at out ≡ text

-- the slice has no room for the text, and `at` tells so
pub record Over (text out : List ℕ) (at : ℕ) : Type 0 where
  pub longer : length out < length text
  pub past : length out < at

-- what is told of the text so far
abbrev pub Sofar : List ℕ → List ℕ → ℕ → Type 0
Sofar text out at = Whole text out at ⊎ Over text out at

-- THE PROMISE of what writes a piece: behind whatever text stands so far, the piece follows
pub record Adds (piece before : List ℕ) (at : ℕ) (after : List ℕ) (r : ℕ) : Type 0 where
  pub same : length after ≡ length before
  pub on : (text : List ℕ) → Sofar text before at → Sofar (text ++ piece) after r
