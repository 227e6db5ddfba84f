-- A file's refusal is its request's: there is room for every list that is handed out, so only the text can meet 10.
use Prim.Native.Nat.{ℕ, ◌<◌}
use mathlib.Core.Path.{◌≡◌, refl, ap, sym, ◌∙◌}
use mathlib.Core.Bool.{Bool, true, false, cond, or-true, true≢false}
use mathlib.Core.List.{List, [], ◌∷◌}
use Rattle.std.specs.Prelude.{Option, None, Some, Err}
use borrow.Author.Tests.{lt-ltb, le-ltb}
use lib.Dec.{ltb}
use lib.ListN.{length}
use Rattle.model.specs.declared.Refusal.{Refusal}
use Rattle.model.specs.declared.Refusal.TheVariants as why
use Rattle.model.specs.declared.Edition.TheVariants.{First}
use Rattle.model.specs.Edition.{most_plans}
use Rattle.model.specs.Association.{Request, objectives}
use Rattle.model.specs.PoolFile.{PoolFile, file_request, file_text, request_text}
use Rattle.model.specs.Refusal.{check, first_of, max_size, bad_directions, bad_size, bad_divisions, bad_count, bad_pool, no_room, select_refusal, file_refusal}
use Rattle.list_laws.proofs.Checks.{applies-first}
use Rattle.demand3_laws.proofs.Passed.{size-limits, count-limits}
use Rattle.model.specs.Calls.{choose_by}
use Rattle.pool_laws.specs.Choice.{exit, text_refusal, text_exit, roomy, first_some, list_refusal, list_exit}

enough : (r : Request) → bad_size r.size ≡ false → bad_count First r.count ≡ false → no_room r roomy ≡ false
unfolding no_room
enough r a b = rw (le-ltb max_size r.size (size-limits r.size a).1, le-ltb (most_plans First) r.count (count-limits First r.count b).1)

abbrev six : Bool → Bool → Bool → Bool → Bool → Bool → Option Refusal
six a b c d e f = first_of (check why.Directions a ∷ check why.Size b ∷ check why.Divisions c ∷ check why.Count d ∷ check why.Values e ∷ check why.Room f ∷ [])

-- where 10 applies only after 3 or 7, another 10 may follow
ten_last : (a b c d e x y : Bool) → (b ≡ false → d ≡ false → x ≡ false) → six a b c d e y ≡ first_some (six a b c d e x) (cond y (Some why.Room) None)
unfolding first_of
ten_last true b c d e x y f = refl
ten_last false true c d e x y f = refl
ten_last false false true d e x y f = refl
ten_last false false false true e x y f = refl
ten_last false false false false true x y f = refl
ten_last false false false false false true y f = absurd (true≢false (f refl refl))
ten_last false false false false false false y f = refl

pub file_refusal_lem : (f : PoolFile) (out : ℕ) → file_refusal f out ≡ list_refusal (file_request f) out
unfolding file_refusal select_refusal
file_refusal_lem f out =
    ten_last (bad_directions f.marks) (bad_size f.size) (bad_divisions (length f.marks) f.divisions) (bad_count First f.count) (bad_pool (file_request f))
    (no_room (file_request f) roomy) (ltb out (length (file_text f))) (enough (file_request f))

-- so where it is not refused, its request is not
pub file_selects : (f : PoolFile) (out : ℕ) → file_refusal f out ≡ None → select_refusal (file_request f) roomy ≡ None
file_selects f out e = first_none (select_refusal (file_request f) roomy) _ (sym (file_refusal_lem f out) ∙ e)
  where
    first_none : (a b : Option Refusal) → first_some a b ≡ None → a ≡ None
    first_none None b h = refl
    first_none (Some n) b h = h

pub directions-first : (f : PoolFile) (out : ℕ) → bad_directions f.marks ≡ true → file_refusal f out ≡ Some why.Directions
unfolding file_refusal
directions-first f out e = applies-first _ _ e

-- ---- a pool of too many plans is refused as an empty one is

pub many-plans : (n : ℕ) → most_plans First < n → bad_count First n ≡ true
many-plans n h = rw (lt-ltb (most_plans First) n h, or-true)

-- where 7 applies, neither a later test nor a text is looked at
seven_stops : (a b c e f x y : Bool) (o : Option Refusal) (s t out : List ℕ) → choose_by (first_some (six a b c true e f) o) s out ≡ choose_by (six a b c true x y) t out
unfolding first_of
seven_stops true b c e f x y o s t out = refl
seven_stops false true c e f x y o s t out = refl
seven_stops false false true e f x y o s t out = refl
seven_stops false false false e f x y o s t out = refl

pub refused_alike : (w : Request) (f : PoolFile) (out : List ℕ) → bad_directions w.marks ≡ bad_directions f.marks → bad_size w.size ≡ bad_size f.size
    → bad_divisions (objectives w) w.divisions ≡ bad_divisions (length f.marks) f.divisions → bad_count w.edition w.count ≡ true → bad_count First f.count ≡ true
    → list_exit w out ≡ choose_by (file_refusal f (length out)) (file_text f) out
unfolding file_refusal select_refusal
refused_alike w f out two three four empty many =
    rw (two, three, four, empty, many)
    (seven_stops (bad_directions f.marks) (bad_size f.size) (bad_divisions (length f.marks) f.divisions) (bad_pool w) (no_room w roomy)
    (bad_pool (file_request f)) (ltb (length out) (length (file_text f))) (text_refusal (request_text w) (length out)) (request_text w) (file_text f) out)

-- ---- the listing's answer, by the selection's

module _ (r : Request) (out : List ℕ) where
  list-by : (o : Option Refusal) → select_refusal r roomy ≡ o → list_exit r out ≡ choose_by (first_some o (text_refusal (request_text r) (length out))) (request_text r) out
  list-by o e = ap (λ (t : Option Refusal). choose_by (first_some t (text_refusal (request_text r) (length out))) (request_text r) out) e

  pub list-refused : (n : Refusal) → select_refusal r roomy ≡ Some n → list_exit r out ≡ exit (Err n) out
  list-refused n e = list-by (Some n) e

  pub list_written : select_refusal r roomy ≡ None → list_exit r out ≡ text_exit (request_text r) out
  list_written e = list-by None e
