-- Seven numbers that are read are words.
use Prim.Native.Nat.{ℕ, ◌+◌, ◌*◌, ◌%◌, ◌^◌}
use mathlib.Core.Path.{◌≡◌, ap, subst}
use mathlib.Core.Bool.{◌||◌}
use mathlib.Core.List.{List, [], ◌∷◌}
use Rattle.list_laws.proofs.Options.{none-ne-some, some-injective}
use Rattle.std.specs.Prelude.{Option, None, Some}
use borrow.Author.Tests.{ltb-true}
use lib.Dec.{eqb, leb}
use Rattle.model.specs.PoolFile.{Parsed, Reader, pure, onward, number, if_none_left, wholly}
use Rattle.model.specs.Load.{Load, load, parse_load}
use Rattle.list_laws.proofs.Bools.{and_left}
use Rattle.pool_number.proofs.Groups.{number_by}
use Rattle.pool_number.proofs.Options.{both_read}
use Rattle.form_laws.specs.Writable.{Word}
use Rattle.load_laws.specs.Words.{LoadWords}

number_word : (bytes : List ℕ) (p : Parsed ℕ) → number bytes ≡ Some p → Word p.value
number_word bytes p e = number_by (λ k n bytes p. Word p.value)
    (λ k n b rest l t. ltb-true (n + b % 128 * 2 ^ k) (2 ^ 64) (and_left _ (leb 1 b || eqb k 0) t))
    (λ k n b rest p l w. w)
    bytes 0 0 p e

-- what follows of a number that is read first
number-first : {B C : Type 0} (f : ℕ → Reader B) (bytes : List ℕ) (p : Parsed B) → onward (number bytes) f ≡ Some p
    → ((n : ℕ) (rest : List ℕ) → Word n → f n rest ≡ Some p → C) → C
number-first f bytes p e then = let q = both_read (number bytes) f p e in then q.0.value q.0.rest (number_word bytes q.0 q.1) q.2

load_word : (bytes : List ℕ) (p : Parsed Load) → load bytes ≡ Some p → LoadWords p.value
unfolding load
load_word bytes p e =
    number-first _ bytes p e (λ m a wm e. number-first _ a p e (λ h b wh e. number-first _ b p e (λ size c ws e. number-first _ c p e (λ count d wc e.
    number-first _ d p e (λ constraints f wk e. number-first _ f p e (λ seed g wd e. number-first _ g p e (λ k rest wj e.
    subst (λ (q : Parsed Load). LoadWords q.value) (some-injective _ _ e)
    (record { objectives = wm; divisions = wh; size = ws; count = wc; constraints = wk; seed = wd; skip = wj }))))))))

-- what is read wholly was read
wholly-read : {A : Type 0} (o : Option (Parsed A)) (a : A) → wholly o ≡ Some a → o ≡ pure a []
wholly-read None a e = absurd (none-ne-some a e)
wholly-read (Some p) a e = left p.rest p.value a e
  where
    left : {A : Type 0} (rest : List ℕ) (v a : A) → if_none_left rest v ≡ Some a → ◌≡◌ {A = Option (Parsed A)} (Some (record { value = v; rest = rest })) (pure a [])
    left [] v a e = ap (λ x. pure x []) (some-injective v a e)
    left (b ∷ rest) v a e = absurd (none-ne-some a e)

pub load-words : (bytes : List ℕ) (l : Load) → parse_load bytes ≡ Some l → LoadWords l
unfolding parse_load
load-words bytes l e = load_word bytes (record { value = l; rest = [] }) (wholly-read (load bytes) l e)
