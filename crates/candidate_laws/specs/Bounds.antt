-- Whole candidates whose settings lie within their dimensions' bounds.
use Rattle.std.specs.Prelude.{ℕ, ◌≡◌, true, List, []}
use Rattle.list_laws.specs.Places.{Places}
use Rattle.model.specs.declared.Distribution.{Distribution}
use Rattle.model.specs.declared.ParamValue.{ParamValue}
use Rattle.model.specs.Setting.{in_bounds, no_value}

-- a candidate has a setting for each of n dimensions, of its kind and within its bounds
abbrev pub Within : (ℕ → Distribution) → ℕ → List ParamValue → Type 0
Within dims n c = Places (λ d v. in_bounds (dims d) v ≡ true) no_value n c

-- so many candidates, each within its bounds
abbrev pub AllWithin : (ℕ → Distribution) → ℕ → ℕ → List (List ParamValue) → Type 0
AllWithin dims n count cs = Places (λ i c. Within dims n c) [] count cs
