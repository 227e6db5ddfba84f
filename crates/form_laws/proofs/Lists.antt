-- Numbers written one after the other, list after list, and so many things read one after the other.
use Prim.Native.Nat.{ℕ, suc}
use mathlib.Core.Path.{◌≡◌, refl, sym, ap, ◌∙◌}
use mathlib.Core.List.{List, [], ◌∷◌, ◌++◌, map, flatten, append_assoc}
use Rattle.std.specs.Prelude.{Option}
use lib.ListN.{length}
use Rattle.model.specs.PoolFile.{Parsed, Reader, pure, onward, many, number, written, written_all}
use Rattle.pool_laws.proofs.Shortest.{read_back}
use Rattle.form_laws.specs.Writable.{Every, ReadFrom, Words}

-- ---- written

pub written_none : written_all [] ≡ []
unfolding written_all
written_none = refl

pub written-more : (n : ℕ) (ns : List ℕ) → written_all (n ∷ ns) ≡ written n ++ written_all ns
unfolding written_all
written-more n ns = refl

pub written-append : (a b : List ℕ) → written_all (a ++ b) ≡ written_all a ++ written_all b
unfolding written_all
written-append [] b = refl
written-append (n ∷ a) b = ap (λ l. written n ++ l) (written-append a b) ∙ sym (append_assoc (written n) (written_all a) (written_all b))

pub written-each : {A : Type 0} (numbers : A → List ℕ) (l : List A) → written_all (flatten (map numbers l)) ≡ flatten (map (λ a. written_all (numbers a)) l)
unfolding written_all flatten
written-each numbers [] = refl
written-each numbers (a ∷ l) = written-append (numbers a) (flatten (map numbers l)) ∙ ap (λ t. written_all (numbers a) ++ t) (written-each numbers l)

written-flat : (l : List ℕ) → written_all l ≡ flatten (map written l)
unfolding written_all flatten
written-flat [] = refl
written-flat (n ∷ l) = ap (λ t. written n ++ t) (written-flat l)

-- ---- read

-- a reader that reads, and what goes on from there
pub then_read : {A B : Type 0} (f : A → Reader B) (o : Option (Parsed A)) (a : A) (rest : List ℕ) → o ≡ pure a rest → onward o f ≡ f a rest
then_read f o a rest e = ap (λ x. onward x f) e

-- so many of the same
module _ {A : Type 0} (r : Reader A) (bytes : A → List ℕ) where
  pub many-back : (l : List A) (rest : List ℕ) → Every (ReadFrom r bytes) l → many (length l) r (flatten (map bytes l) ++ rest) ≡ pure l rest
  unfolding many flatten
  many-back [] rest e = refl
  many-back (a ∷ l) rest e =
      ap (λ t. many (suc (length l)) r t) (append_assoc (bytes a) (flatten (map bytes l)) rest)
      ∙ then_read (λ x. λ left. onward (many (length l) r left) (λ t. pure (x ∷ t))) (r (bytes a ++ (flatten (map bytes l) ++ rest))) a (flatten (map bytes l) ++ rest)
      (e.0 (flatten (map bytes l) ++ rest))
      ∙ then_read (λ t. pure (a ∷ t)) (many (length l) r (flatten (map bytes l) ++ rest)) l rest (many-back l rest e.1)

-- A LIST OF NUMBERS
numbers_read : (l : List ℕ) → Words l → Every (ReadFrom number written) l
numbers_read [] w = tt
numbers_read (n ∷ l) w = (λ rest. read_back n rest w.0, numbers_read l w.1)

pub numbers_back : (n : ℕ) (l rest : List ℕ) → n ≡ length l → Words l → many n number (written_all l ++ rest) ≡ pure l rest
numbers_back n l rest e w =
    ap (λ k. many k number (written_all l ++ rest)) e ∙ ap (λ t. many (length l) number (t ++ rest)) (written-flat l) ∙ many-back number written l rest (numbers_read l w)
