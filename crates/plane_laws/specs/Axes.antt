-- Extreme plans on the axes: plan i less the ideal is a i at objective i and 0 elsewhere. The plane through them has the intercepts a 0, .., a (m - 1), and where each is
-- a power of two its doubles are exactly these.
use Rattle.std.specs.Prelude.{ℕ, ◌+◌, ◌*◌, ◌<◌, ◌≡◌, Bool, true, not, ◌&&◌, List, T, eqb, Float, get_or}
use Rattle.std.specs.Float.{binary64}
use Rattle.std.specs.Float.Ieee.{fits, lt, eq}
use Rattle.std.specs.Float.Ieee.Scale.{finite}
use Rattle.model.specs.Real.{◌⊖◌, ◌⊗◌, ◌⊘◌, nought, unit, small_span, real, bits}
use Rattle.model.specs.Hyperplane.{magnitude}

-- two doubles have the same bits
abbrev pub same : Float → Float → Bool
same x y = eqb (bits x) (bits y)

-- a double that the elimination leaves and the division gives back: 1 / (1 / a) is a, and zeros beside it stay zeros
unfoldable pub inverts : Float → Bool
inverts a =
    same (unit ⊘ (unit ⊘ a)) a && (same (nought ⊘ a) nought && (same (nought ⊗ a) nought && (same (nought ⊗ (unit ⊘ a)) nought && (same (a ⊖ nought) a
    && not (lt (magnitude a) (magnitude nought))))))

-- 2 ^ (k - 33): from 2^-33, the least that is above 1e-10
abbrev pub power_of_two : ℕ → Float
power_of_two k = real ((990 + k) * 0x10_0000_0000_0000)

pub record OnAxes (m : ℕ) (value : ℕ → ℕ → Float) (ideal : ℕ → Float) (extremes : List ℕ) (a : ℕ → Float) : Type 0 where
  pub own : (i : ℕ) → i < m → value (get_or extremes i 0) i ⊖ ideal i ≡ a i
  pub other : (i j : ℕ) → i < m → j < m → (i ≡ j → ⊥) → value (get_or extremes i 0) j ⊖ ideal j ≡ nought
