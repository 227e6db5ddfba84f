-- What opening gives: a session that is ready has the session property, whatever the slices hold that are lent with it.
use Rattle.std.specs.Prelude.{ℕ, List, Result, Ok, Err}
use Rattle.model.specs.declared.Refusal.{Refusal}
use Rattle.model.specs.declared.Session.{Session}
use Rattle.model.specs.Session.{state}
use Rattle.model.specs.Property.{SessionOk}

abbrev pub usable_by : Result Unit Refusal → Session → Type 0
usable_by (Ok tt) s = (cs ps ns pool : List ℕ) → SessionOk (state s cs ps ns pool)
usable_by (Err n) s = Unit
