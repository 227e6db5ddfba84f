-- What the parts of a session call answer, in the words of its definition.
use Rattle.std.specs.Prelude.{ℕ, ◌≡◌, true, false, List, Err}
use Rattle.model.specs.declared.Refusal.{Refusal}
use Rattle.model.specs.declared.Distribution.{Distribution}
use Rattle.model.specs.declared.Sampled.{Sampled}
use Rattle.model.specs.declared.Session.{Session}
use Rattle.model.specs.Session.{State, long_enough}
use Rattle.model.specs.Refusal.{bad_history}
use Rattle.model.specs.Calls.{SampleExit, sample_of}
use Rattle.model.specs.Property.{SessionOk}

-- a refusal leaves the session as it was
abbrev pub refused_with : Refusal → Session → Sampled
refused_with r s = record { outcome = Err r; session = s }

-- ---- a call that adds no dimension

-- what it asks: 7 and 10 do not apply
pub record Called (st : State) (history : List ℕ) : Type 0 where
  pub ok : SessionOk st
  pub room : long_enough st ≡ true
  pub few : bad_history history ≡ false

-- what it leaves is the call's answer, whatever dimension is passed
abbrev pub Answers : SampleExit → State → ℕ → List ℕ → Type 0
Answers e st plan history = (d : Distribution) → e ≡ sample_of st d plan history
