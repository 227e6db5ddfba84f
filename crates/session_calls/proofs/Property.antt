-- The session property of a session that words stand for, and a slice that is too short.
use Rattle.std.proofs.Common.{◌≡◌, ℕ, ◌<◌, false, List, length, eqb, sym, subst}
use Rattle.std.specs.Prelude.{Result, Ok, Err, is_ok}
use Rattle.model.specs.declared.Refusal.{Refusal}
use Rattle.session_calls.specs.Usable.{usable_by}
use borrow.Author.Tests.{lt-leb, eqb-true}
use Rattle.list_laws.proofs.Bools.{and_not}
use Rattle.model.specs.declared.Session.{Session}
use Rattle.model.specs.Session.{state, max_words, long_enough}
use Rattle.model.specs.Property.{SessionOk}

-- an equal session has the property too
pub same-session : (r s : Session) (cs ps ns pool : List ℕ) → r ≡ s → SessionOk (state s cs ps ns pool) → SessionOk (state r cs ps ns pool)
same-session r s cs ps ns pool e ok = subst (λ x. SessionOk (state x cs ps ns pool)) (sym e) ok

-- one slice that is too short is enough
pub too_short : (s : Session) (cs ps ns pool : List ℕ) → length cs < max_words → long_enough (state s cs ps ns pool) ≡ false
unfolding long_enough
too_short s cs ps ns pool h = and_not _ _ (lt-leb max_words (length cs) h)

-- an outcome is ready just where its number is 0, and there the session is usable
pub usable : (r : Result Unit Refusal) (s : Session) (code : ℕ) → is_ok r ≡ eqb code 0 → (code ≡ 0 → (cs ps ns pool : List ℕ) → SessionOk (state s cs ps ns pool)) → usable_by r s
usable (Ok tt) s code e h = h (eqb-true code 0 (sym e))
usable (Err n) s code e h = tt
