-- Candidates within their bounds whose doubles are doubles: crossover, mutation and words ask both.
use Prim.Native.Nat.{ℕ, ◌<◌}
use mathlib.Core.Path.{◌≡◌}
use mathlib.Core.Bool.{true}
use mathlib.Core.List.{List, []}
use Rattle.list_laws.specs.Places.{Places}
use Rattle.list_laws.proofs.Places.{places_weaker}
use Rattle.model.specs.declared.Distribution.{Distribution}
use Rattle.model.specs.declared.ParamValue.{ParamValue}
use Rattle.model.specs.Setting.{in_bounds, no_value}
use Rattle.settings.proofs.InBounds.{Held}
use Rattle.variation_laws.proofs.Children.{Fit}
use Rattle.candidate_laws.specs.Bounds.{Within, AllWithin}

-- the numbers of n dimensions are such as the machine holds
abbrev pub AllHeld : (ℕ → Distribution) → ℕ → Type 0
AllHeld dims n = (d : ℕ) → d < n → Held (dims d)

-- a candidate, and so many candidates
abbrev pub Sound : (ℕ → Distribution) → ℕ → List ParamValue → Type 0
Sound dims n c = Places (λ d v. Fit (dims d) v) no_value n c

abbrev pub AllSound : (ℕ → Distribution) → ℕ → ℕ → List (List ParamValue) → Type 0
AllSound dims n count cs = Places (λ i c. Sound dims n c) [] count cs

pub sound-within : (dims : ℕ → Distribution) (n : ℕ) (c : List ParamValue) → Sound dims n c → Within dims n c
sound-within dims n c = places_weaker (λ d v. Fit (dims d) v) no_value (λ d v. in_bounds (dims d) v ≡ true) n c (λ d v f. f.0)

pub all-within : (dims : ℕ → Distribution) (n count : ℕ) (cs : List (List ParamValue)) → AllSound dims n count cs → AllWithin dims n count cs
all-within dims n count cs = places_weaker (λ i c. Sound dims n c) [] (λ i c. Within dims n c) count cs (λ i c. sound-within dims n c)
