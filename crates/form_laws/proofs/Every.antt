-- Laws of `Every`: by places, of joined lists, of what is made of each entry, of equal entries.
use Prim.Native.Nat.{ℕ, zero, suc, ◌<◌}
use mathlib.Core.List.{List, [], ◌∷◌, ◌++◌, map}
use native.Mathlib.Omega.{arith}
use lib.ListN.{length, get_or, replicate}
use Rattle.form_laws.specs.Writable.{Every}

module _ {A : Type 0} (P : A → Type 0) where
  -- place by place, and back
  pub every-from : (z : A) (l : List A) → ((i : ℕ) → i < length l → P (get_or l i z)) → Every P l
  every-from z [] h = tt
  every-from z (a ∷ l) h = (h 0 (omega arith), every-from z l (λ i u. h (suc i) (omega arith)))

  pub every-at : (z : A) (l : List A) → Every P l → (i : ℕ) → i < length l → P (get_or l i z)
  every-at z [] e i h = absurd (omega arith)
  every-at z (a ∷ l) e zero h = e.0
  every-at z (a ∷ l) e (suc i) h = every-at z l e.1 i (omega arith)

  pub every_append : (a b : List A) → Every P a → Every P b → Every P (a ++ b)
  every_append [] b e f = f
  every_append (x ∷ a) b e f = (e.0, every_append a b e.1 f)

  pub every-same : (n : ℕ) (a : A) → P a → Every P (replicate n a)
  every-same zero a p = tt
  every-same (suc n) a p = (p, every-same n a p)

  pub every_weaker : (Q : A → Type 0) (l : List A) → ((a : A) → P a → Q a) → Every P l → Every Q l
  every_weaker Q [] f e = tt
  every_weaker Q (a ∷ l) f e = (f a e.0, every_weaker Q l f e.1)

module _ {A B : Type 0} (P : B → Type 0) (f : A → B) where
  pub every_map : (l : List A) → Every (λ a. P (f a)) l → Every P (map f l)
  every_map [] e = tt
  every_map (a ∷ l) e = (e.0, every_map l e.1)
