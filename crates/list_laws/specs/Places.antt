-- A list of so many entries, of which something holds at each place.
use Rattle.std.specs.Prelude.{ℕ, ◌<◌, ◌≡◌, List, length, get_or}

pub record Places {A : Type 0} (P : ℕ → A → Type 0) (z : A) (n : ℕ) (l : List A) : Type 0 where
  pub whole : length l ≡ n
  pub each : (i : ℕ) → i < n → P i (get_or l i z)
