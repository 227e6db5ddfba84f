-- THE TWO EDITIONS UNDER `choose` (document 02, M-111): a file of the second is read as its pool, numbers and settings passed over; files that hold one pool are
-- refused, answered and printed alike; 17 is met by broken files of the second edition alone, and 1 by none of them.
use Prim.Native.Nat.{ℕ}
use mathlib.Core.Path.{◌≡◌, refl, sym, ap, ◌∙◌}
use mathlib.Core.Bool.{Bool, true, false, cond, not, ◌&&◌, true≢false}
use mathlib.Core.List.{List, [], ◌∷◌}
use Rattle.list_laws.proofs.Options.{none-ne-some, some-injective}
use Rattle.std.specs.Prelude.{Option, None, Some}
use lib.Dec.{eqb}
use Rattle.model.specs.declared.Refusal.{Refusal}
use Rattle.model.specs.declared.Refusal.TheVariants as why
use Rattle.model.specs.Lists.{all_in}
use Rattle.model.specs.PoolFile.{PoolFile, File, Numbered, pool_file, parse_by, parse, opens_second, second_file, is_passed_over}
use Rattle.model.specs.Refusal.{Check, first_of, number_of, form_refusal, refusal_of_parsed, file_refusal, choose_refusal}
use Rattle.model.specs.Calls.{choose_of, printed}
use Rattle.list_laws.proofs.Bools.{by_bool, and_left, and_right}
use Rattle.list_laws.proofs.Checks.{passed_over, applies-first}

-- ---- files that hold one pool

module _ (a b : List ℕ) (f : PoolFile) (p : parse a ≡ Some f) (q : parse b ≡ Some f) where
  pub same-refusal : (out : ℕ) → choose_refusal a out ≡ choose_refusal b out
  unfolding choose_refusal
  same-refusal out = rw (p, q)

  -- `choose` answers and writes the same
  pub same-exit : (out : List ℕ) → choose_of a out ≡ choose_of b out
  unfolding choose_of choose_refusal
  same-exit out = rw (p, q)

  pub same-printed : printed a ≡ printed b
  unfolding printed choose_refusal
  same-printed = rw (p, q)

-- ---- a file's own edition

module _ (bytes : List ℕ) (opens : opens_second bytes ≡ true) where
  pub second-read : (f : File Numbered) → parse_by second_file bytes ≡ Some f → parse bytes ≡ Some (is_passed_over f)
  unfolding parse
  second-read f e = rw (opens, e)

  pub second_none : parse_by second_file bytes ≡ None → parse bytes ≡ None
  unfolding parse
  second_none e = rw (opens, e)

  pub second-broken : parse bytes ≡ None → (out : ℕ) → choose_refusal bytes out ≡ Some why.SecondForm
  unfolding choose_refusal
  second-broken e out = rw (e, opens)

module _ (bytes : List ℕ) (opens : opens_second bytes ≡ false) where
  pub first_read : parse bytes ≡ parse_by pool_file bytes
  unfolding parse
  first_read = rw opens

  pub first-broken : parse bytes ≡ None → (out : ℕ) → choose_refusal bytes out ≡ Some why.Form
  unfolding choose_refusal
  first-broken e out = rw (e, opens)

-- THE SAME POOL IN EITHER EDITION is printed alike
pub second_as_first : (a b : List ℕ) (f : File Numbered) → opens_second a ≡ true → parse_by second_file a ≡ Some f → opens_second b ≡ false
    → parse_by pool_file b ≡ Some (is_passed_over f) → printed a ≡ printed b
second_as_first a b f u e v g = same-printed a b (is_passed_over f) (second-read a u f e) (first_read b v ∙ g)

-- ---- 1 and 17

-- what holds of the reason of each check holds of the first that applies
first_reason : (P : Refusal → Bool) (cs : List Check) → all_in (λ (c : Check). P c.reason) cs ≡ true → (r : Refusal) → first_of cs ≡ Some r → P r ≡ true
unfolding first_of all_in
first_reason P [] h r e = absurd (none-ne-some r e)
first_reason P (c ∷ cs) h r e =
    by_bool c.applies
    (λ t. ap P (some-injective r c.reason (sym e ∙ applies-first c cs t)) ∙ and_left (P c.reason) (all_in (λ (x : Check). P x.reason) cs) h)
    (λ t. first_reason P cs (and_right (P c.reason) (all_in (λ (x : Check). P x.reason) cs) h) r (sym (passed_over c cs t) ∙ e))

-- a file in good form meets neither
neither : Refusal → Bool
neither r = not (eqb (number_of r) 1) && not (eqb (number_of r) 17)

good_neither : (f : PoolFile) (out : ℕ) (r : Refusal) → file_refusal f out ≡ Some r → neither r ≡ true
unfolding file_refusal all_in neither
good_neither f out r e = first_reason neither _ refl r e

-- so each of the two is met only where the file breaks the form of its edition
by_form : (bytes : List ℕ) (out : ℕ) (r : Refusal) → choose_refusal bytes out ≡ Some r → neither r ≡ false → (parse bytes ≡ None) × (r ≡ form_refusal bytes)
unfolding choose_refusal
by_form bytes out r e h = go (parse bytes) refl e
  where
    go : (o : Option PoolFile) → parse bytes ≡ o → refusal_of_parsed (form_refusal bytes) o out ≡ Some r → (parse bytes ≡ None) × (r ≡ form_refusal bytes)
    go None g k = (g, sym (some-injective _ _ k))
    go (Some f) g k = absurd (true≢false (sym (good_neither f out r k) ∙ h))

pub seventeen : (bytes : List ℕ) (out : ℕ) → choose_refusal bytes out ≡ Some why.SecondForm → (opens_second bytes ≡ true) × (parse bytes ≡ None)
unfolding neither
seventeen bytes out e =
    let g = by_form bytes out why.SecondForm e refl in
    (by_bool (opens_second bytes) (λ u. u) (λ u. let z : why.SecondForm ≡ why.Form = g.1 ∙ ap (λ (b : Bool). cond b why.SecondForm why.Form) u in absurd (cc)), g.0)

pub never_one : (bytes : List ℕ) (out : ℕ) → opens_second bytes ≡ true → choose_refusal bytes out ≡ Some why.Form → ⊥
unfolding neither
never_one bytes out u e =
    let g = by_form bytes out why.Form e refl in
    let z : why.Form ≡ why.SecondForm = g.1 ∙ ap (λ (b : Bool). cond b why.SecondForm why.Form) u in
    cc
