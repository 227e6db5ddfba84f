-- What the steps of a session call answer, in the words of the call's definition.
use Rattle.std.specs.Prelude.{ℕ, ◌≤◌, ◌≡◌, false, List}
use Rattle.model.specs.declared.Session.{Session}
use Rattle.model.specs.declared.Sampled.{Sampled}
use Rattle.model.specs.Session.{state, dimension_of}
use Rattle.model.specs.Refusal.{bad_dimensions}
use Rattle.model.specs.Calls.{SampleExit}

-- what a call leaves
abbrev pub exit : Sampled → List ℕ → List ℕ → List ℕ → List ℕ → SampleExit
exit r cs ps ns pool = record { answer = r.outcome; after = state r.session cs ps ns pool }

-- what a state past discovery needs to be drawn from
pub record Ready (s : Session) : Type 0 where
  pub dims : bad_dimensions (dimension_of s) s.progress.n_dims ≡ false
  pub some : 1 ≤ s.progress.n_dims
