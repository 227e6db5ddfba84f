-- A signed number that 64 bits hold is read back from its bits.
use mathlib.Core.Path.{◌≡◌, sym, ap₂, ◌∙◌}
use Prim.Native.Nat.{◌^◌, ◌<◌}
use lib.IntN.{ℤ}
use lib.Signed.{mag}
use mir.Syntax.{w64}
use mir.Val.{SFits, to_z, of_z}
use mir.ValLaws.{to_z-of_z}

-- from its fit, as a parameter has it, and from its magnitude's bound, as a struct's field has it
pub held : {z : ℤ} → SFits w64 z → to_z w64 (of_z w64 z) ≡ z
held {z} f = to_z-of_z w64 z f

pub back : (z : ℤ) → mag z < 2 ^ 63 → to_z w64 (of_z w64 z) ≡ z
back z h = held (record { sfits = h })

-- and what is told of two numbers as their bits hold them
pub told : {A : Type 0} (f : ℤ → ℤ → A) {x y : ℤ} {b : A} → SFits w64 x → SFits w64 y → f (to_z w64 (of_z w64 x)) (to_z w64 (of_z w64 y)) ≡ b → f x y ≡ b
told f p q h = sym (ap₂ f (held p) (held q)) ∙ h
