-- A power of two is such a double; and what its test says.
use Prim.Native.Nat.{ℕ, ◌<◌}
use mathlib.Core.Path.{◌≡◌, refl, ap, sym, ◌∙◌}
use mathlib.Core.Bool.{Bool, true, false, not, ◌&&◌}
use borrow.Author.Tests.{eqb-true}
use lib.Dec.{T, eqb}
use lib.Ieee.{Float, binary64, add, sub, mul, div, neg, lt, of_bits, to_bits, fits}
use lib.Ieee.Bits.{of_bits-to_bits}
use lib.Ieee.Fits.{sub-fits, mul-fits, div-fits}
use Rattle.model.specs.Lists.{all_below}
use Rattle.model.specs.Real.{◌⊖◌, ◌⊗◌, ◌⊘◌, nought, unit}
use Rattle.model.specs.Hyperplane.{magnitude}
use Rattle.list_laws.proofs.Bools.{and_left, and_right}
use Rattle.list_laws.proofs.Tests.{all_below-each}
use Rattle.float_laws.proofs.Constants.{nought-fits}
use Rattle.plane_laws.specs.Axes.{same, inverts, power_of_two}

same_bits : (x y : Float) → T (fits binary64 x) → T (fits binary64 y) → same x y ≡ true → x ≡ y
same_bits x y h k e = sym (of_bits-to_bits binary64 x h) ∙ ap (of_bits binary64) (eqb-true _ _ e) ∙ of_bits-to_bits binary64 y k

zero-fits : T (fits binary64 nought)
unfolding of_bits
zero-fits = nought-fits binary64

not-true : (b : Bool) → not b ≡ true → b ≡ false
not-true true e = sym e
not-true false e = refl

module _ (a : Float) (held : T (fits binary64 a)) (e : inverts a ≡ true) where
  -- its tests
  abbrev t₀ : Bool
  t₀ = same (unit ⊘ (unit ⊘ a)) a

  abbrev t₁ : Bool
  t₁ = same (nought ⊘ a) nought

  abbrev t₂ : Bool
  t₂ = same (nought ⊗ a) nought

  abbrev t₃ : Bool
  t₃ = same (nought ⊗ (unit ⊘ a)) nought

  abbrev t₄ : Bool
  t₄ = same (a ⊖ nought) a

  abbrev t₅ : Bool
  t₅ = not (lt (magnitude a) (magnitude nought))

  parts : (t₀ ≡ true) × (t₁ ≡ true) × (t₂ ≡ true) × (t₃ ≡ true) × (t₄ ≡ true) × (t₅ ≡ true)
  unfolding inverts
  parts =
      let r₁ = and_right t₀ (t₁ && (t₂ && (t₃ && (t₄ && t₅)))) e in
      let r₂ = and_right t₁ (t₂ && (t₃ && (t₄ && t₅))) r₁ in
      let r₃ = and_right t₂ (t₃ && (t₄ && t₅)) r₂ in
      let r₄ = and_right t₃ (t₄ && t₅) r₃ in (
        and_left t₀ (t₁ && (t₂ && (t₃ && (t₄ && t₅)))) e,
        and_left t₁ (t₂ && (t₃ && (t₄ && t₅))) r₁,
        and_left t₂ (t₃ && (t₄ && t₅)) r₂,
        and_left t₃ (t₄ && t₅) r₃,
        and_left t₄ t₅ r₄,
        and_right t₄ t₅ r₄,
      )

  pub back : unit ⊘ (unit ⊘ a) ≡ a
  back = same_bits _ a (div-fits binary64 unit (unit ⊘ a)) held parts.0

  pub quotient : nought ⊘ a ≡ nought
  quotient = same_bits _ nought (div-fits binary64 nought a) zero-fits parts.1

  pub product : nought ⊗ a ≡ nought
  product = same_bits _ nought (mul-fits binary64 nought a) zero-fits parts.2

  pub term : nought ⊗ (unit ⊘ a) ≡ nought
  term = same_bits _ nought (mul-fits binary64 nought (unit ⊘ a)) zero-fits parts.3

  pub difference : a ⊖ nought ≡ a
  difference = same_bits _ a (sub-fits binary64 a nought) held parts.4

  pub greatest : lt (magnitude a) (magnitude nought) ≡ false
  greatest = not-true _ parts.5

-- the closed ones
pub unit_product : nought ⊗ unit ≡ nought
unfolding mul of_bits
unit_product = refl

pub zero_product : nought ⊗ nought ≡ nought
unfolding mul of_bits
zero_product = refl

pub unit_difference : unit ⊖ nought ≡ unit
unfolding sub add neg of_bits
unit_difference = refl

pub zero_difference : nought ⊖ nought ≡ nought
unfolding sub add neg of_bits
zero_difference = refl

-- 2^-33 to 2^1000
all_invert : all_below (λ k. inverts (power_of_two k) && fits binary64 (power_of_two k)) 1034 ≡ true
unfolding all_below inverts add sub mul div neg lt of_bits to_bits fits
all_invert = refl

-- THEOREM
pub powers_invert : (k : ℕ) → k < 1034 → (inverts (power_of_two k) ≡ true) × (fits binary64 (power_of_two k) ≡ true)
powers_invert k h = let e = all_below-each (λ k. inverts (power_of_two k) && fits binary64 (power_of_two k)) 1034 all_invert k h in (and_left (inverts (power_of_two k)) (fits binary64 (power_of_two k)) e, and_right (inverts (power_of_two k)) (fits binary64 (power_of_two k)) e)
