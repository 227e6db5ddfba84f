-- What reading a line promises of the text that comes after it.
use Rattle.std.specs.Prelude.{ℕ, ◌<◌, ◌≤◌}

-- of a text there is less left, unless there was none
pub record Shorter (text rest : ℕ) : Type 0 where
  pub inside : rest ≤ text
  pub further : 0 < text → rest < text
