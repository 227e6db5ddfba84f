-- What the parts of `open` answer, in the words of its definition.
use Rattle.std.specs.Prelude.{Option, Result}
use Rattle.model.specs.declared.Refusal.{Refusal}
use Rattle.model.specs.Session.{blank}
use Rattle.model.specs.Calls.{open_by}

-- the outcome of a refusal, or of none
abbrev pub opening_by : Option Refusal → Result Unit Refusal
opening_by o = (open_by o blank).outcome
