-- Laws of model's readers: what an answer is, by cases, and a reader that is run so many times.
use Prim.Native.Nat.{ℕ, zero, suc, ◌+◌, ◌-◌, ◌<◌}
use mathlib.Core.Path.{◌≡◌, refl, sym, ap, ap₂, ◌∙◌}
use mathlib.Core.List.{List, [], ◌∷◌, ◌++◌, map}
use Rattle.list_laws.proofs.Options.{none-ne-some, some-injective}
use Rattle.std.specs.Prelude.{Option, None, Some}
use native.Mathlib.Nat.{zero-add, suc-add}
use native.Mathlib.Omega.{arith}
use lib.ListN.{length}
use Rattle.model.specs.PoolFile.{Parsed, Reader, pure, onward, many}
use Rattle.list_laws.proofs.Bools.{by_option}

-- a reader after another: where the two read, the first did, and the second what it left
module _ {A B : Type 0} where
  pub both_read : (o : Option (Parsed A)) (f : A → Reader B) (p : Parsed B) → onward o f ≡ Some p
      → (q : Parsed A) × (o ≡ Some q) × (f q.value q.rest ≡ Some p)
  both_read None f p e = absurd (none-ne-some p e)
  both_read (Some q) f p e = (q, refl, e)

-- ---- so many of the same

module _ {A : Type 0} (r : Reader A) where
  pub many-zero : (bytes : List ℕ) → many 0 r bytes ≡ pure [] bytes
  unfolding many
  many-zero bytes = refl

  -- what was read, taken apart
  pub record Parts (i : ℕ) (bytes : List ℕ) (l : List A) (rest : List ℕ) : Type 0 where
    pub head : Parsed A
    pub tail : Parsed (List A)
    pub first : r bytes ≡ Some head
    pub later : many i r head.rest ≡ Some tail
    pub values : l ≡ head.value ∷ tail.value
    pub ends : rest ≡ tail.rest

  pub many_parts : (i : ℕ) (bytes : List ℕ) (l : List A) (rest : List ℕ) → many (suc i) r bytes ≡ pure l rest → Parts i bytes l rest
  unfolding many
  many_parts i bytes l rest e =
      let a = both_read (r bytes) _ _ e in
      let b = both_read (many i r a.0.rest) _ _ a.2 in
      let s = some-injective _ _ (sym b.2) in
      record { head = a.0; tail = b.0; first = a.1; later = b.1; values = ap (λ (p : Parsed (List A)). p.value) s; ends = ap (λ (p : Parsed (List A)). p.rest) s }

  pub many-length : (i : ℕ) (bytes : List ℕ) (l : List A) (rest : List ℕ) → many i r bytes ≡ pure l rest → length l ≡ i
  many-length zero bytes l rest e = ap (λ (p : Parsed (List A)). length p.value) (some-injective _ _ (sym e ∙ many-zero bytes))
  many-length (suc i) bytes l rest e =
      let p = many_parts i bytes l rest e in
      ap length p.values ∙ ap suc (many-length i p.head.rest p.tail.value p.tail.rest p.later)

  -- after i that are read, n more
  many_then : (i n : ℕ) (bytes : List ℕ) (l : List A) (rest : List ℕ) → many i r bytes ≡ pure l rest
      → many (i + n) r bytes ≡ onward (many n r rest) (λ t. pure (l ++ t))
  unfolding many
  many_then zero n bytes l rest e =
      let s = some-injective _ _ (sym e ∙ many-zero bytes) in
      let u : l ≡ [] = ap (λ (p : Parsed (List A)). p.value) s in
      let w : rest ≡ bytes = ap (λ (p : Parsed (List A)). p.rest) s in
      rw (u, w, zero-add) (by_option (many n r bytes) (λ z. rw z) (λ p z. rw z))
  many_then (suc i) n bytes l rest e =
      let p = many_parts i bytes l rest e in
      let m = many_then i n p.head.rest p.tail.value p.tail.rest p.later in
      let q : many (suc i + n) r bytes ≡ onward (many n r p.tail.rest) (λ t. pure (p.head.value ∷ (p.tail.value ++ t))) =
      rw (suc-add, p.first, m) (by_option (many n r p.tail.rest) (λ z. rw z) (λ t z. rw z)) in
      q ∙ sym (ap₂ (λ k s. onward (many n r s) (λ t. pure (k ++ t))) p.values p.ends)

  -- one more after those read
  pub many_more : (i : ℕ) (bytes : List ℕ) (l : List A) (rest : List ℕ) (a : A) (rest' : List ℕ) → many i r bytes ≡ pure l rest → r rest ≡ pure a rest'
      → many (i + 1) r bytes ≡ pure (l ++ (a ∷ [])) rest'
  unfolding many
  many_more i bytes l rest a rest' e f = many_then i 1 bytes l rest e ∙ rw f

  -- where the next is none, there are not so many
  pub many_stop : (i n : ℕ) (bytes : List ℕ) (l : List A) (rest : List ℕ) → i < n → many i r bytes ≡ pure l rest → r rest ≡ None → many n r bytes ≡ None
  unfolding many
  many_stop i n bytes l rest h e f =
      let k : n ≡ i + suc (n - suc i) = omega arith in
      ap (λ (t : ℕ). many t r bytes) k ∙ many_then i (suc (n - suc i)) bytes l rest e ∙ rw f

-- what each reads is turned by `g`: the whole list is
module _ {A B : Type 0} (r : Reader A) (g : A → B) where
  abbrev turned : Reader B
  turned bytes = onward (r bytes) (λ a. pure (g a))

  pub many-map : (n : ℕ) (bytes : List ℕ) → many n turned bytes ≡ onward (many n r bytes) (λ l. pure (map g l))
  unfolding many
  many-map zero bytes = refl
  many-map (suc n) bytes = by_option (r bytes)
      (λ z. rw z)
      (λ a z. rw (z, many-map n a.rest) (by_option (many n r a.rest) (λ y. rw y) (λ l y. rw y)))
