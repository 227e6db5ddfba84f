-- Where a number ends: the bytes left are those from there on.
use Prim.Native.Nat.{ℕ, suc, ◌+◌, ◌-◌, ◌≤◌}
use mathlib.Core.Path.{◌≡◌, refl, sym, ap, ◌∙◌, subst}
use mathlib.Core.List.{List}
use native.Mathlib.Omega.{arith}
use lib.ListN.{length, drop, length-drop}
use lib.Seq.{drop-drop}
use Rattle.model.specs.PoolFile.{Parsed, pure, number}
use Rattle.list_laws.proofs.Bools.{by_option}
use Rattle.std.specs.Prelude.{Option, Some}
use Rattle.pool_number.specs.declared.Read.{Read}
use Rattle.pool_number.specs.Reading.{as_read, number_at, ReadIs}
use Rattle.pool_number.proofs.Groups.{number_by}

-- some bytes, and at least one, are taken from the front
record Front (bytes : List ℕ) (p : Parsed ℕ) : Type 0 where
  pub taken : ℕ
  pub one : 1 ≤ taken
  pub there : taken ≤ length bytes
  pub ends : p.rest ≡ drop taken bytes

front : (bytes : List ℕ) (p : Parsed ℕ) → number bytes ≡ Some p → Front bytes p
front bytes p e = number_by (λ k n bytes p. Front bytes p)
    (λ k n b rest l w. record { taken = 1; one = omega arith; there = omega arith; ends = refl })
    (λ k n b rest p l f. record { taken = suc f.taken; one = omega arith; there = omega arith; ends = f.ends })
    bytes 0 0 p e

ends_at : (bytes : List ℕ) (at : ℕ) (p : Parsed ℕ) → number (drop at bytes) ≡ Some p
    → number (drop at bytes) ≡ pure p.value (drop (length bytes - length p.rest) bytes)
ends_at bytes at p e =
    let f = front (drop at bytes) p e in
    let l = length-drop at bytes in
    let t : length p.rest ≡ length bytes - at - f.taken = ap length f.ends ∙ length-drop f.taken (drop at bytes) ∙ omega arith in
    let n : at + f.taken ≡ length bytes - length p.rest = omega (arith, f.one, f.there) in
    e ∙ ap (λ (s : List ℕ). pure p.value s) (f.ends ∙ drop-drop f.taken at bytes ∙ ap (λ (i : ℕ). drop i bytes) n)

-- the answer by cases
number_at_is : (bytes : List ℕ) (at : ℕ) → ReadIs bytes at (number_at bytes at)
number_at_is bytes at = by_option (number (drop at bytes))
    (λ n. subst (λ (o : Option (Parsed ℕ)). ReadIs bytes at (as_read (length bytes) o)) (sym n) n)
    (λ p e. subst (λ (o : Option (Parsed ℕ)). ReadIs bytes at (as_read (length bytes) o)) (sym e) (ends_at bytes at p e))

-- .. of the answer that is that one
pub told : (bytes : List ℕ) (at : ℕ) (r : Option Read) → r ≡ number_at bytes at → ReadIs bytes at r
told bytes at r e = subst (λ (y : Option Read). ReadIs bytes at y) (sym e) (number_at_is bytes at)
