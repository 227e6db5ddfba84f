-- A child of two reals, by the spread of a draw.
use mathlib.Core.Path.{◌≡◌, ap, ◌∙◌}
use mathlib.Core.Bool.{true, false}
use Prim.Native.Nat.{ℕ}
use lib.Ieee.{Float, le}
use Rattle.model.specs.Real.{◌⊖◌, ◌⊗◌, ◌⊘◌, half, unit, two, clamp}
use Rattle.model.specs.Numbers.{R}
use Rattle.model.specs.Setting.{draw_unit, spread}

pub spread-low : (u : Float) (k : ℕ) → le u half ≡ true → R (two ⊗ u) k ≡ spread u k
unfolding spread
spread-low u k h = rw h

pub spread_high : (u : Float) (k : ℕ) → le u half ≡ false → R (unit ⊘ (two ⊗ (unit ⊖ u))) k ≡ spread u k
unfolding spread
spread_high u k h = rw h

-- a child: what a function g of beta makes, held within the bounds
pub child_is : (g : Float → Float) (low high beta u : Float) (k s : ℕ) (m r : Float) → beta ≡ spread u k → u ≡ (draw_unit s).value → m ≡ g beta → r ≡ clamp low high m
    → r ≡ clamp low high (g (spread (draw_unit s).value k))
child_is g low high beta u k s m r b v e f =
    f ∙ ap (clamp low high) (e ∙ ap g (b ∙ ap (λ (x : Float). spread x k) v))
