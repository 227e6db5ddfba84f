-- Laws of what is copied: numbers, one more, and a plan's rows.
use Prim.Native.Nat.{ℕ, ◌+◌, ◌<◌}
use mathlib.Core.Path.{◌≡◌, ap, sym, subst, ◌∙◌}
use mathlib.Core.List.{List, [], ◌∷◌, ◌++◌, append-nil}
use Rattle.std.specs.Prelude.{None, Option, Some}
use lib.ListN.{length, drop}
use Rattle.model.specs.PoolFile.{number, written, written_all, many, rows, row_numbers}
use Rattle.pool_number.specs.declared.Read.{Read}
use Rattle.pool_plans.proofs.Storing.{reads_none, reads_more, reads_stop, reads-count}
use Rattle.pool_form.specs.Form.{Adds}
use Rattle.pool_form.proofs.Pieces.{adds_none, adds_then, adds_as}
use Rattle.form_laws.proofs.Lists.{written_none, written-more, written-append}
use Rattle.convert_rows.specs.Copied.{NumberCopied, Copied, CopiedIs}

-- ---- one number

pub written_one : (n : ℕ) → written_all (n ∷ []) ≡ written n
written_one n = written-more n [] ∙ ap (λ (l : List ℕ). written n ++ l) written_none ∙ append-nil (written n)

-- ---- so many

-- numbers behind numbers
pub adds-all : (o₀ o₁ o₂ : List ℕ) (at r₁ r₂ : ℕ) (a b : List ℕ) → Adds (written_all a) o₀ at o₁ r₁ → Adds (written_all b) o₁ r₁ o₂ r₂ → Adds (written_all (a ++ b)) o₀ at o₂ r₂
adds-all o₀ o₁ o₂ at r₁ r₂ a b p q = adds_as o₀ o₂ at r₂ _ _ (sym (written-append a b)) (adds_then o₀ o₁ o₂ at r₁ r₂ (written_all a) (written_all b) p q)

pub adds_one : (o₀ o₁ : List ℕ) (at r : ℕ) (n : ℕ) → Adds (written n) o₀ at o₁ r → Adds (written_all (n ∷ [])) o₀ at o₁ r
adds_one o₀ o₁ at r n a = adds_as o₀ o₁ at r _ _ (sym (written_one n)) a

module _ (file : List ℕ) (at : ℕ) (before : List ℕ) (o : ℕ) where
  pub numbers_none : Copied (many 0 number) (λ l. l) file at before o before o at
  numbers_none =
      reads_none number file at (λ l. Adds (written_all l) before o before o) (adds_as before before o o [] _ (sym written_none) (adds_none before o))

  module _ (i p : ℕ) (mid : List ℕ) (q : ℕ) (w : Copied (many i number) (λ l. l) file at before o mid q p) where
    pub numbers_more : (r : Read) (after : List ℕ) (o' : ℕ) → NumberCopied file p mid q after o' (Some r)
        → Copied (many (i + 1) number) (λ l. l) file at before o after o' r.next
    numbers_more r after o' x =
        reads_more number file at (λ l. Adds (written_all l) before o mid q) i p w r.number r.next x.0 (λ l. Adds (written_all l) before o after o')
        (adds-all before mid after o q o' w.value (r.number ∷ []) w.stored (adds_one mid after q o' r.number x.1))

    pub numbers_stop : (n : ℕ) → i < n → number (drop p file) ≡ None → many n number (drop at file) ≡ None
    numbers_stop n h e = reads_stop number file at (λ l. Adds (written_all l) before o mid q) i p w n h e

-- ---- rows

module _ (file : List ℕ) (at m : ℕ) where
  pub rows_none : many m number (drop at file) ≡ None → rows m (drop at file) ≡ None
  unfolding rows
  rows_none n = rw n

  module _ (before : List ℕ) (o : ℕ) (o₁ : List ℕ) (q₁ p : ℕ) (values : Copied (many m number) (λ l. l) file at before o o₁ q₁ p) where
    pub rows_no_count : number (drop p file) ≡ None → rows m (drop at file) ≡ None
    unfolding rows
    rows_no_count n = rw (values.reads, n)

    module _ (o₂ : List ℕ) (q₂ : ℕ) (k : Read) (count : NumberCopied file p o₁ q₁ o₂ q₂ (Some k)) (o₃ : List ℕ) (q₃ : ℕ) where
      pub rows_copied : (r : Option ℕ) → CopiedIs (many k.number number) (λ l. l) file k.next o₂ q₂ o₃ q₃ r → CopiedIs (rows m) row_numbers file at before o o₃ q₃ r
      unfolding rows
      rows_copied None d = rw (values.reads, count.0, d)
      rows_copied (Some next) d =
          let n : length d.value ≡ k.number = reads-count number file k.next _ k.number next d in
          let a : Adds (written_all (length d.value ∷ [])) o₁ q₁ o₂ q₂ =
          subst (λ (j : ℕ). Adds (written_all (j ∷ [])) o₁ q₁ o₂ q₂) (sym n) (adds_one o₁ o₂ q₁ q₂ k.number count.1) in
          record {
            value = record { values = values.value; constraints = d.value };
            reads = rw (values.reads, count.0, d.reads);
            stored =
                adds-all before o₁ o₃ o q₁ q₃ values.value (length d.value ∷ d.value) values.stored
                (adds-all o₁ o₂ o₃ q₁ q₂ q₃ (length d.value ∷ []) d.value a d.stored);
          }
