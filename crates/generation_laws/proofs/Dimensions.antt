-- Dimensions that code is given, and that are not bad, have numbers such as the machine holds.
use mathlib.Core.Path.{◌≡◌}
use mathlib.Core.Bool.{false}
use mathlib.Core.List.{List}
use native.Mathlib.Omega.{arith}
use mir.Val.{Val}
use denote.Laws.{Is}
use denote.Struct.Declared as struct
use Rattle.model.specs.contracts.Operators as ops
use Rattle.model.specs.declared.Operators.{Operators}
use Rattle.model.specs.Refusal.{bad_dimensions}
use Rattle.model.specs.Setting.{operators_in}
use Rattle.settings.proofs.Valid.{few}
use Rattle.typed_laws.proofs.Held.{operators-held}
use Rattle.candidate_laws.proofs.Sound.{AllHeld}

pub operators-good : (o : Operators) (vs : List Val) → Is (struct.row ops.the_type) o vs → bad_dimensions (operators_in o).dims (operators_in o).dim_count ≡ false
    → AllHeld (operators_in o).dims (operators_in o).dim_count
operators-good o vs p good d h = let f = few (operators_in o).dims (operators_in o).dim_count good in operators-held o vs p d (omega arith)
