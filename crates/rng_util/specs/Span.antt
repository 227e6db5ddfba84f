-- What is asked of the bounds that a whole number is drawn between.
use Rattle.std.specs.Prelude.{ℤ, ◌≤ℤ◌}
use Rattle.model.specs.Setting.{min_whole, max_whole}

-- in order, and of at most 2^53 in magnitude
abbrev pub Spanned : ℤ → ℤ → Type 0
Spanned a b = (a ≤ℤ b) × (min_whole ≤ℤ a) × (b ≤ℤ max_whole)
