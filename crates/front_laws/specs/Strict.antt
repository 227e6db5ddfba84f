-- What the theorems on fronts ask of a domination of n plans.
use Rattle.std.specs.Prelude.{ℕ, ◌<◌, ◌≡◌, Bool, true, false, Float}
use Rattle.std.specs.Float.Ieee.{is_nan}

-- no plan of the pool dominates itself, and whom a dominated plan dominates, its dominator dominates
pub record Strict (d : ℕ → ℕ → Bool) (n : ℕ) : Type 0 where
  pub irreflexive : (p : ℕ) → p < n → d p p ≡ false
  pub transitive : (p q r : ℕ) → p < n → q < n → r < n → d p q ≡ true → d q r ≡ true → d p r ≡ true

-- none of a row's m values is a NaN
abbrev pub Known : ℕ → (ℕ → Float) → Type 0
Known m a = (j : ℕ) → j < m → is_nan (a j) ≡ false
