-- The ends between which the root R is looked for.
use Rattle.std.specs.Prelude.{◌≡◌, true, false, ℕ, ◌<◌, Float}
use Rattle.std.specs.Float.Ieee.{le}
use Rattle.model.specs.Real.{real}
use Rattle.model.specs.Numbers.{P}

-- the upper end at the start: the pattern of 2^52
abbrev pub Top : ℕ
Top = 0x4330_0000_0000_0000

-- "keeping P(lower) <= v < P(upper)" for every v, NaN too: as the halving tests it, and of the first two ends, which it does not test, nothing
pub record Parted (v : Float) (k l u : ℕ) : Type 0 where
  pub under : 0 < l → le (P (real l) k) v ≡ true
  pub over : u < Top → le (P (real u) k) v ≡ false
