-- Candidates as arrays hold them.
use Rattle.std.specs.Prelude.{ℕ, List, get_or}
use Rattle.std.specs.Float.{nan}
use Rattle.model.specs.declared.Distribution.{Distribution}
use Rattle.model.specs.declared.ParamValue.{ParamValue}
use Rattle.model.specs.declared.ParamValue.TheVariants as value
use Rattle.model.specs.Lists.{list_below}
use Rattle.model.specs.Real.{nought}
use Rattle.model.specs.Setting.{stored_at}
use Rattle.settings.specs.declared.Slot.{Slot}

-- what the logic reads past an array's end
abbrev pub no_slot : Slot
no_slot = record { value = value.Float nan }

-- what a place holds that is not filled yet
abbrev pub blank_slot : Slot
blank_slot = record { value = value.Float nought }

-- the setting at a place of a candidate, and the settings of its first n places
abbrev pub slot_of : List Slot → ℕ → ParamValue
slot_of params i = (get_or params i no_slot).value

unfoldable pub settings_of : List Slot → ℕ → List ParamValue
settings_of params n = list_below (slot_of params) n

-- ---- candidates as they lie in a slice of words: one after the other, a word a setting; the kind is the dimension's

-- parent p of n settings
unfoldable pub parent_at : (ℕ → Distribution) → ℕ → List ℕ → ℕ → List ParamValue
parent_at dims n words p = list_below (stored_at dims n words p) n

-- so many parents
unfoldable pub parents_in : (ℕ → Distribution) → ℕ → List ℕ → ℕ → List (List ParamValue)
parents_in dims n words count = list_below (parent_at dims n words) count
