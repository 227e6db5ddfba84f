-- The pool that a file holds, from what is read as numbers alone: both editions of a file hold one pool, and `choose` prints the same for both.
use Prim.Native.Nat.{ℕ, zero, suc}
use mathlib.Core.Path.{◌≡◌, ap, sym, ◌∙◌}
use mathlib.Core.Bool.{true, false}
use mathlib.Core.List.{List, [], ◌∷◌, map, map-map}
use Rattle.list_laws.proofs.Options.{none-ne-some, some-injective}
use Rattle.std.specs.Prelude.{Option, None, Some}
use lib.Dec.{leb}
use lib.ListN.{length}
use Rattle.model.specs.Plan.{Plan}
use Rattle.model.specs.PoolFile.{Parsed, Reader, pure, onward, number, many, Rows, rows, measured, plan, File, file_by, PoolFile, pool_file, if_none_left, wholly, max_file, parse_by, Numbered, opens_second, second_file, parse}
use Rattle.model.specs.Refusal.{file_refusal, choose_refusal}
use Rattle.model.specs.Calls.{text_of, printed_by, max_text, printed}
use Rattle.model.specs.Convert.{backwards}
use Rattle.list_laws.proofs.Bools.{by_bool}
use Rattle.pool_number.proofs.Options.{both_read, many_parts}

-- ---- what was read, from a whole file

pub record Wholly {A : Type 0} (r : Reader A) (bytes : List ℕ) (a : A) : Type 0 where
  pub short : leb (length bytes) max_file ≡ true
  pub read : r bytes ≡ pure a []

module _ {A : Type 0} where
  left : (v : A) (rest : List ℕ) (a : A) → if_none_left rest v ≡ Some a → pure v rest ≡ pure a []
  left v [] a e = ap (λ (x : A). pure x []) (some-injective _ _ e)
  left v (b ∷ bytes) a e = absurd (none-ne-some a e)

  none_left : (o : Option (Parsed A)) (a : A) → wholly o ≡ Some a → o ≡ pure a []
  none_left None a e = absurd (none-ne-some a e)
  none_left (Some p) a e = left p.value p.rest a e

  pub parsed-wholly : (r : Reader A) (bytes : List ℕ) (a : A) → parse_by r bytes ≡ Some a → Wholly r bytes a
  unfolding parse_by
  parsed-wholly r bytes a e = by_bool (leb (length bytes) max_file)
      (λ t. record { short = t; read = none_left (r bytes) a (rw t at e) })
      (λ t. absurd (none-ne-some a (rw t at e)))

  pub wholly-parsed : (r : Reader A) (bytes : List ℕ) (a : A) → Wholly r bytes a → parse_by r bytes ≡ Some a
  unfolding parse_by
  wholly-parsed r bytes a w = rw (w.short, w.read)

-- ---- plans measured from what their numbers are

by_read : {A B C : Type 0} (o : Option (Parsed A)) (k : A → Reader B) (z : B) (rest : List ℕ) → onward o k ≡ pure z rest
    → ((a : A) (mid : List ℕ) → o ≡ pure a mid → k a mid ≡ pure z rest → C) → C
by_read o k z rest e f = let q = both_read o k _ e in f q.0.value q.0.rest q.1 q.2

plans-measured : (m n : ℕ) (bytes : List ℕ) (rs : List Rows) (rest : List ℕ) → many n (rows m) bytes ≡ pure rs rest → many n (plan m) bytes ≡ pure (map (measured m) rs) rest
unfolding many plan
plans-measured m zero bytes rs rest e = ap (λ (p : Parsed (List Rows)). pure (map (measured m) p.value) p.rest) (some-injective _ _ e)
plans-measured m (suc n) bytes rs rest e =
    let p = many_parts (rows m) n bytes rs rest e in
    let t = p.tail in
    let q = plans-measured m n p.head.rest t.value t.rest p.later in
    let a : many (suc n) (plan m) bytes ≡ pure (measured m p.head.value ∷ map (measured m) t.value) t.rest = rw (p.first, q) in
    a ∙ ap (λ (l : List Rows). pure (map (measured m) l) t.rest) (sym p.values) ∙ ap (λ (s : List ℕ). pure (map (measured m) rs) s) (sym p.ends)

abbrev pub pooled : File Rows → PoolFile
pooled f = record {
  objectives = f.objectives;
  divisions = f.divisions;
  size = f.size;
  count = f.count;
  seed = f.seed;
  marks = f.marks;
  plans = map (measured f.objectives) f.plans;
}

file_measured : (bytes : List ℕ) (f : File Rows) (rest : List ℕ) → file_by rows bytes ≡ pure f rest → file_by plan bytes ≡ pure (pooled f) rest
unfolding file_by
file_measured bytes f rest e =
    by_read (number bytes) _ f rest e (λ m s₁ r₁ e₁.
    by_read (number s₁) _ f rest e₁ (λ h s₂ r₂ e₂.
    by_read (number s₂) _ f rest e₂ (λ size s₃ r₃ e₃.
    by_read (number s₃) _ f rest e₃ (λ count s₄ r₄ e₄.
    by_read (number s₄) _ f rest e₄ (λ seed s₅ r₅ e₅.
    by_read (many m number s₅) _ f rest e₅ (λ marks s₆ r₆ e₆.
    by_read (many count (rows m) s₆) _ f rest e₆ (λ plans s₇ r₇ e₇.
    rw (r₁, r₂, r₃, r₄, r₅, r₆, plans-measured m count s₆ plans s₇ r₇)
    (ap (λ (p : Parsed (File Rows)). pure (pooled p.value) p.rest) (some-injective _ _ e₇)))))))))

-- ---- the pool of each edition

pub first-pool : (bytes : List ℕ) (f : File Rows) → opens_second bytes ≡ false → parse_by (file_by rows) bytes ≡ Some f → parse bytes ≡ Some (pooled f)
unfolding parse pool_file
first-pool bytes f o e =
    let w = parsed-wholly (file_by rows) bytes f e in
    rw o (wholly-parsed (file_by plan) bytes (pooled f) (record { short = w.short; read = file_measured bytes f [] w.read }))

pub second-pool : (bytes : List ℕ) (g : File Numbered) → opens_second bytes ≡ true → parse_by second_file bytes ≡ Some g → parse bytes ≡ Some (pooled (backwards g))
unfolding parse
second-pool bytes g o e = rw (o, e) (ap (λ (ps : List Plan). Some (record {
  objectives = g.objectives;
  divisions = g.divisions;
  size = g.size;
  count = g.count;
  seed = g.seed;
  marks = g.marks;
  plans = ps;
})) (sym (map-map (measured g.objectives) (λ p. p.rows) g.plans)))

-- what `choose` prints for a file is told by its pool
print_by : (bytes : List ℕ) (q : PoolFile) → parse bytes ≡ Some q → printed bytes ≡ printed_by (file_refusal q max_text) (text_of (Some q))
unfolding printed choose_refusal
print_by bytes q e = rw e

pub same_print : (a b : List ℕ) (q : PoolFile) → parse a ≡ Some q → parse b ≡ Some q → printed a ≡ printed b
same_print a b q e f = print_by a q e ∙ sym (print_by b q f)
