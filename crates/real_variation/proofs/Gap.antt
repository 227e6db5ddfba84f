-- |x| below 1e-14 is x between -1e-14 and 1e-14.
use mathlib.Core.Path.{◌≡◌, refl, sym}
use mathlib.Core.Bool.{true, false, ◌&&◌, and-true}
use Prim.Native.Nat.{ℕ, ◌+◌, ◌*◌, ◌<◌}
use native.Mathlib.Nat.{mul-pos}
use native.Mathlib.Omega.{arith}
use borrow.Author.Tests.{lt-ltb}
use lib.Dec.{ltb}
use lib.IntN.{ℤ}
use lib.Ieee.{Float, nan, inf, fin, up, down, lt}
use lib.Ieee.Fits.{down_pos}
use Rattle.model.specs.Real.{absolute}

-- for a gap that is a number above zero
module _ (g : ℕ) (i : ℤ) (p : 0 < g * up i) where
  some : (e : ℤ) → 0 < g * up i * down e
  some e = mul-pos p (down_pos e)

  pub both_sides : (x : Float) → lt (absolute x) (fin false g i) ≡ (lt x (fin false g i) && lt (fin true g i) x)
  unfolding absolute lt
  both_sides nan = refl
  both_sides (inf true) = refl
  both_sides (inf false) = refl
  both_sides (fin false m e) =
      let h = some e in
      rw (lt-ltb 0 (g * up i * down e + m * up e * down i) (omega arith)) (sym (and-true (ltb (m * up e * down i) (g * up i * down e))))
  both_sides (fin true m e) =
      let h = some e in
      rw (lt-ltb 0 (m * up e * down i + g * up i * down e) (omega arith))
