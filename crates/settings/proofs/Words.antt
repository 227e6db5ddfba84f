-- Settings and their words: a kind that is neither 0 nor 1 is a Categorical's.
use mathlib.Core.Path.{◌≡◌, refl}
use Prim.Native.Nat.{ℕ}
use Rattle.list_laws.proofs.Below.{by_two}
use Rattle.model.specs.declared.ParamValue.TheVariants as value
use Rattle.model.specs.Setting.{of_word}

pub of_word-other : (k w : ℕ) → (k ≡ 0 → ⊥) → (k ≡ 1 → ⊥) → of_word k w ≡ value.Categorical w
of_word-other k w a b = by_two (λ (j : ℕ). of_word j w) (value.Categorical w) (λ j. refl) k a b
