-- WHAT IS WRITTEN IS READ: the numbers of a plan, and a file whatever its plans are read into.
use Prim.Native.Nat.{ℕ, ◌≤◌}
use mathlib.Core.Path.{◌≡◌, refl, sym, ap, ◌∙◌}
use mathlib.Core.List.{List, [], ◌∷◌, ◌++◌, map, flatten, append_assoc, append-nil}
use Rattle.std.specs.Prelude.{Some}
use borrow.Author.Tests.{le-leb}
use lib.ListN.{length}
use Rattle.model.specs.PoolFile.{Reader, pure, many, number, written, written_all, Rows, rows, row_numbers, File, file_by, file_numbers, max_file, parse_by}
use Rattle.pool_laws.proofs.Shortest.{read_back}
use Rattle.form_laws.specs.Writable.{Every, ReadBack, Word, Words, RowsOk, Writable}
use Rattle.form_laws.proofs.Lists.{written-more, written-append, written-each, many-back, numbers_back}

-- one number before others, and a list of them before others
number-first : (n : ℕ) (ns rest : List ℕ) → Word n → number (written_all (n ∷ ns) ++ rest) ≡ pure n (written_all ns ++ rest)
number-first n ns rest w =
    ap (λ t. number (t ++ rest)) (written-more n ns) ∙ ap number (append_assoc (written n) (written_all ns) rest) ∙ read_back n (written_all ns ++ rest) w

list-first : (m : ℕ) (l ns rest : List ℕ) → m ≡ length l → Words l → many m number (written_all (l ++ ns) ++ rest) ≡ pure l (written_all ns ++ rest)
list-first m l ns rest e w =
    ap (λ t. many m number (t ++ rest)) (written-append l ns) ∙ ap (many m number) (append_assoc (written_all l) (written_all ns) rest)
    ∙ numbers_back m l (written_all ns ++ rest) e w

-- A PLAN'S NUMBERS
pub rows_back : (m : ℕ) (r : Rows) (rest : List ℕ) → RowsOk m r → rows m (written_all (row_numbers r) ++ rest) ≡ pure r rest
unfolding rows
rows_back m r rest ok =
    let n = length r.constraints in
    rw (list-first m r.values (n ∷ r.constraints) rest (sym ok.whole) ok.values, number-first n r.constraints rest ok.count, numbers_back n r.constraints rest refl ok.constraints)

module _ {P : Type 0} (plan : ℕ → Reader P) (numbers : P → List ℕ) where
  plans-back : (m count : ℕ) (l : List P) (rest : List ℕ) → count ≡ length l → Every (ReadBack (plan m) numbers) l
      → many count (plan m) (written_all (flatten (map numbers l)) ++ rest) ≡ pure l rest
  plans-back m count l rest e w =
      ap (λ k. many k (plan m) (written_all (flatten (map numbers l)) ++ rest)) e ∙ ap (λ t. many (length l) (plan m) (t ++ rest)) (written-each numbers l)
      ∙ many-back (plan m) (λ p. written_all (numbers p)) l rest w

  -- A FILE
  module _ (f : File P) (ok : Writable plan numbers f) where
    pub file_back : (rest : List ℕ) → file_by plan (written_all (file_numbers numbers f) ++ rest) ≡ pure f rest
    unfolding file_by file_numbers
    file_back rest =
        let plans = flatten (map numbers f.plans) in
        let marks = f.marks ++ plans in
        rw (
          number-first f.objectives (f.divisions ∷ f.size ∷ f.count ∷ f.seed ∷ marks) rest ok.objectives,
          number-first f.divisions (f.size ∷ f.count ∷ f.seed ∷ marks) rest ok.divisions,
          number-first f.size (f.count ∷ f.seed ∷ marks) rest ok.size,
          number-first f.count (f.seed ∷ marks) rest ok.count,
          number-first f.seed marks rest ok.seed,
          list-first f.objectives f.marks plans rest (sym ok.marks_long) ok.marks,
          plans-back f.objectives f.count f.plans rest (sym ok.plans_long) ok.plans,
        )

    -- .. with nothing behind it, where it is not too long
    pub parsed-back : length (written_all (file_numbers numbers f)) ≤ max_file → parse_by (file_by plan) (written_all (file_numbers numbers f)) ≡ Some f
    unfolding parse_by
    parsed-back h =
        let bytes = written_all (file_numbers numbers f) in
        let e : file_by plan bytes ≡ pure f [] = ap (file_by plan) (sym (append-nil bytes)) ∙ file_back [] in
        rw (le-leb (length bytes) max_file h, e)
