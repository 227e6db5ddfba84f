-- Mutation's steps as the definitions have them.
use mathlib.Core.Path.{◌≡◌, ap, ◌∙◌}
use mathlib.Core.Bool.{true, false}
use Prim.Native.Nat.{ℕ}
use lib.Ieee.{Float, le, lt}
use Rattle.model.specs.Real.{◌⊕◌, ◌⊖◌, ◌⊗◌, ◌⊘◌, nought, half, unit, two, clamp}
use Rattle.model.specs.Numbers.{P, R}
use Rattle.model.specs.Draw.{drawn}
use Rattle.list_laws.proofs.Draws.{drawn-by}
use Rattle.model.specs.Setting.{draw_unit, mutation_shift, polynomial_mutation}

module _ (x low high range : Float) (k : ℕ) (u y r : Float) where
  pub shift_below : lt u half ≡ true → y ≡ P (unit ⊖ ((x ⊖ low) ⊘ range)) k → r ≡ R ((two ⊗ u) ⊕ ((unit ⊖ (two ⊗ u)) ⊗ y)) k → r ⊖ unit ≡ mutation_shift x low high range k u
  unfolding mutation_shift
  shift_below h e f = rw h (ap (λ (z : Float). z ⊖ unit) (f ∙ ap (λ (z : Float). R ((two ⊗ u) ⊕ ((unit ⊖ (two ⊗ u)) ⊗ z)) k) e))

  pub shift_above : lt u half ≡ false → y ≡ P (unit ⊖ ((high ⊖ x) ⊘ range)) k → r ≡ R ((two ⊗ (unit ⊖ u)) ⊕ ((two ⊗ (u ⊖ half)) ⊗ y)) k → unit ⊖ r ≡ mutation_shift x low high range k u
  unfolding mutation_shift
  shift_above h e f = rw h (ap (λ (z : Float). unit ⊖ z) (f ∙ ap (λ (z : Float). R ((two ⊗ (unit ⊖ u)) ⊕ ((two ⊗ (u ⊖ half)) ⊗ z)) k) e))

module _ (x low high : Float) (k s : ℕ) (u : Float) (t : ℕ) (d : drawn u t ≡ draw_unit s) where
  pub stays : le (high ⊖ low) nought ≡ true → drawn x t ≡ polynomial_mutation x low high k s
  unfolding polynomial_mutation
  stays h = rw h (drawn-by (λ _. x) d)

  pub moves : (m v : Float) → le (high ⊖ low) nought ≡ false → m ≡ mutation_shift x low high (high ⊖ low) k u → v ≡ clamp low high (x ⊕ (m ⊗ (high ⊖ low)))
      → drawn v t ≡ polynomial_mutation x low high k s
  unfolding polynomial_mutation
  moves m v h e f =
      rw h (ap (λ (z : Float). drawn z t) (f ∙ ap (λ (z : Float). clamp low high (x ⊕ (z ⊗ (high ⊖ low)))) e)
      ∙ drawn-by (λ (v : Float). clamp low high (x ⊕ (mutation_shift x low high (high ⊖ low) k v ⊗ (high ⊖ low)))) d)
