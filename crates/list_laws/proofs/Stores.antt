-- Runs of stores, one behind the other, and one entry stored.
use Prim.Native.Nat.{ℕ, ◌+◌, ◌≤◌, ◌<◌}
use mathlib.Core.Path.{◌≡◌, refl, ap, sym, subst, ◌∙◌}
use mathlib.Core.Bool.{Bool, true, false, cond}
use mathlib.Core.List.{List, [], ◌∷◌, ◌++◌}
use native.Mathlib.Omega.{arith}
use borrow.Author.Tests.{eqb-true, eqb-false}
use lib.Dec.{eqb}
use lib.ListN.{length, get_or, set, length-append}
use lib.Seq.{sets, length-sets, get_or-set_other, get_or-set_same}
use Rattle.model.specs.Lists.{keep_below, over}
use Rattle.list_laws.proofs.Bools.{by_bool}
use Rattle.list_laws.proofs.Built.{over-front}
use Rattle.list_laws.proofs.Kept.{keep_below_none, keep_below-more}
use Rattle.list_laws.specs.Put.{Put, Picked}
use Rattle.list_laws.proofs.Runs.{sets_append}

pub put_nothing : (o : List ℕ) (at : ℕ) → Put o at [] o at
put_nothing o at = record { stored = refl; ends = omega arith }

pub put_then : (o₀ o₁ o₂ : List ℕ) (at r₁ r₂ : ℕ) (a b : List ℕ) → Put o₀ at a o₁ r₁ → Put o₁ r₁ b o₂ r₂ → Put o₀ at (a ++ b) o₂ r₂
put_then o₀ o₁ o₂ at r₁ r₂ a b p q = record {
  stored =
      q.stored ∙ ap (λ (l : List ℕ). sets l r₁ b) p.stored ∙ ap (λ (k : ℕ). sets (sets o₀ at a) k b) p.ends
      ∙ sym (sets_append o₀ at a b);
  ends = omega (arith, p.ends, q.ends, length-append a b);
}

pub put-length : (o₀ o₁ : List ℕ) (at r : ℕ) (a : List ℕ) → Put o₀ at a o₁ r → length o₁ ≡ length o₀
put-length o₀ o₁ at r a p = ap length p.stored ∙ length-sets o₀ at a

-- the same text by another name
pub put_as : (o₀ o₁ : List ℕ) (at r : ℕ) (a b : List ℕ) → a ≡ b → Put o₀ at a o₁ r → Put o₀ at b o₁ r
put_as o₀ o₁ at r a b e p = record { stored = p.stored ∙ ap (λ (l : List ℕ). sets o₀ at l) e; ends = p.ends ∙ ap (λ (l : List ℕ). at + length l) e }

-- what is put at the front stands over what was there
pub put-over : (o₀ o₁ : List ℕ) (r : ℕ) (a : List ℕ) → length a ≤ length o₀ → Put o₀ 0 a o₁ r → o₁ ≡ over a o₀
put-over o₀ o₁ r a h p = p.stored ∙ over-front a o₀ h

-- ---- the numbers that pass a test

pub picked_none : (f : ℕ → Bool) (l : List ℕ) (at : ℕ) → Picked f l at 0 l at
picked_none f l at = put_as l l at at [] _ (sym (keep_below_none f)) (put_nothing l at)

-- a test says whether there is one more
pub picked_more : (f : ℕ → Bool) (l : List ℕ) (at q : ℕ) (o : List ℕ) (len : ℕ) (b : Bool) (o' : List ℕ) (r : ℕ) → f q ≡ b → Picked f l at q o len
    → Put o len (cond b (q ∷ []) []) o' r → Picked f l at (q + 1) o' r
picked_more f l at q o len b o' r e h n = put_as l o' at r _ _ (sym (keep_below-more f q e)) (put_then l o o' at len r (keep_below f q) (cond b (q ∷ []) []) h n)

pub picked_yes : (f : ℕ → Bool) (l : List ℕ) (at q : ℕ) (o : List ℕ) (len : ℕ) → f q ≡ true → Picked f l at q o len
    → Picked f l at (q + 1) (set o len q) (len + 1)
picked_yes f l at q o len e h = picked_more f l at q o len true _ (len + 1) e h (record { stored = refl; ends = refl })

pub picked_no : (f : ℕ → Bool) (l : List ℕ) (at q : ℕ) (o : List ℕ) (len : ℕ) → f q ≡ false → Picked f l at q o len → Picked f l at (q + 1) o len
picked_no f l at q o len e h = picked_more f l at q o len false o len e h (put_nothing o len)

pub picked-length : (f : ℕ → Bool) (l : List ℕ) (at q : ℕ) (o : List ℕ) (len : ℕ) → Picked f l at q o len → length o ≡ length l
picked-length f l at q o len h = put-length l o at len (keep_below f q) h

-- ---- one entry

-- an entry is stored: what any place holds is that entry or what it held
pub set_cases : {A : Type 0} (P : A → Type 0) (d : A) (l : List A) (i j : ℕ) (x : A) → i < length l → (i ≡ j → P x) → ((i ≡ j → ⊥) → P (get_or l j d))
    → P (get_or (set l i x) j d)
set_cases P d l i j x room here elsewhere = by_bool (eqb i j)
    (λ e. let v = eqb-true i j e in subst (λ t. P (get_or (set l i x) t d)) v (subst P (sym (get_or-set_same l i x d room)) (here v)))
    (λ e. let v = eqb-false i j e in subst P (sym (get_or-set_other l i j x d (λ z. v (sym z)))) (elsewhere v))

-- what holds of the entry stored at place n, and of the n before it, holds of them all
pub set-each : {A : Type 0} (P : ℕ → A → Type 0) (d : A) (l : List A) (n : ℕ) (x : A) → n < length l → P n x → ((k : ℕ) → k < n → P k (get_or l k d))
    → (k : ℕ) → k < n + 1 → P k (get_or (set l n x) k d)
set-each P d l n x room here before k h = set_cases (P k) d l n k x room (λ e. subst (λ t. P t x) e here) (λ e. before k (omega arith))
