-- What is proved of the line that a plan is associated with. `d` gives the plan's distance from each line, l is its line, and `kept` the distance that is kept
-- beside it.
use Rattle.std.specs.Prelude.{ℕ, ◌<◌, ◌≡◌, true, false, Float}
use Rattle.std.specs.Float.Ieee.{lt, is_nan}

pub record NearestLine (d : ℕ → Float) (lines l : ℕ) (kept : Float) : Type 0 where
  pub inside : l < lines
  -- no line is nearer, whatever the distances are, NaN and infinity among them
  pub nearest : (j : ℕ) → j < lines → lt (d j) (d l) ≡ false
  -- every line before it is farther, if its distance is no NaN
  pub first : (j : ℕ) → j < l → is_nan (d j) ≡ false → lt (d l) (d j) ≡ true
  -- what is kept is the distance from the line, unless that is a NaN
  pub distance : is_nan (d l) ≡ false → kept ≡ d l
