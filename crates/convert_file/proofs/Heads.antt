-- What stands before the plans: five numbers, and the directions.
use Prim.Native.Nat.{ℕ, ◌+◌, ◌<◌}
use mathlib.Core.Path.{◌≡◌, refl, ap, sym, subst, ◌∙◌}
use mathlib.Core.List.{List, [], ◌∷◌, ◌++◌, map, flatten, append_assoc}
use Rattle.std.specs.Prelude.{Option, None, Some}
use native.Mathlib.Omega.{arith}
use lib.ListN.{length, get_or, drop, set}
use Rattle.model.specs.Lists.{over}
use Rattle.model.specs.PoolFile.{Parsed, Reader, pure, onward, number, many, written_all, File, file_by, file_numbers}
use Rattle.list_laws.proofs.Bools.{by_option}
use Rattle.list_laws.proofs.Built.{over_snoc, over-all}
use Rattle.pool_number.specs.declared.Read.{Read}
use Rattle.pool_plans.specs.Blocks.{Reads}
use Rattle.pool_plans.proofs.Storing.{reads_none, reads_more, reads_stop, reads-count}
use Rattle.pool_form.specs.Form.{Adds}
use Rattle.pool_form.proofs.Pieces.{adds_none, adds_as}
use Rattle.form_laws.proofs.Lists.{written_none}
use Rattle.convert_rows.specs.Copied.{NumberCopied, Copied}
use Rattle.convert_rows.proofs.Copies.{adds-all, adds_one}
use Rattle.convert_file.specs.Files.{Header, HeaderIs, Before, before, objectives_of, count_of, file_of, Begun}

-- ---- the five numbers

-- those read so far stand at the front of the words
pub record Filled (words₀ words text : List ℕ) (o : ℕ) (after : List ℕ) (o' : ℕ) (l : List ℕ) : Type 0 where
  pub stored : words ≡ over l words₀
  pub adds : Adds (written_all l) text o after o'

module _ (file : List ℕ) (at : ℕ) (words₀ text : List ℕ) (o : ℕ) where
  abbrev pub Fills : ℕ → List ℕ → List ℕ → ℕ → ℕ → Type 0
  Fills i words after o' p = Reads (many i number) (Filled words₀ words text o after o') file at p

  pub fills_none : Fills 0 words₀ text o at
  fills_none =
      reads_none number file at (Filled words₀ words₀ text o text o) (record { stored = refl; adds = adds_as text text o o [] _ (sym written_none) (adds_none text o) })

  module _ (i p : ℕ) (words mid : List ℕ) (q : ℕ) (w : Fills i words mid q p) where
    abbrev so_far : List ℕ → Type 0
    so_far = Filled words₀ words text o mid q

    pub fills_stop : (n : ℕ) → i < n → number (drop p file) ≡ None → many n number (drop at file) ≡ None
    fills_stop n h e = reads_stop number file at so_far i p w n h e

    pub fills-next : i < length words₀ → (r : Read) (after : List ℕ) (o' : ℕ) → NumberCopied file p mid q after o' (Some r) → Fills (i + 1) (set words i r.number) after o' r.next
    fills-next h r after o' x =
        let l = reads-count number file at so_far i p w in
        reads_more number file at so_far i p w r.number r.next x.0 (Filled words₀ (set words i r.number) text o after o')
        (record {
          stored = ap (λ (t : List ℕ). set t i r.number) w.stored.stored ∙ over_snoc w.value words₀ i r.number l h;
          adds = adds-all text mid after o q o' w.value (r.number ∷ []) w.stored.adds (adds_one mid after q o' r.number x.1);
        })

  pub filled : (n p : ℕ) (words after : List ℕ) (o' : ℕ) → n ≡ 5 → length words₀ ≡ 5 → Fills n words after o' p → HeaderIs file at words text o after o' (Some p)
  filled n p words after o' e s w =
      let l = reads-count number file at (Filled words₀ words text o after o') n p w in
      record {
        value = w.value;
        reads = subst (λ (k : ℕ). many k number (drop at file) ≡ pure w.value (drop p file)) e w.reads;
        stored = record { stored = w.stored.stored ∙ over-all w.value words₀ (omega arith); adds = w.stored.adds };
      }

-- ---- .. and the directions

module _ (file : List ℕ) (at : ℕ) where
  pub before_none : many 5 number (drop at file) ≡ None → before (drop at file) ≡ None
  unfolding before
  before_none n = rw n

  module _ (words text : List ℕ) (o : ℕ) (o₁ : List ℕ) (q₁ p : ℕ) (five : Reads (many 5 number) (Header words text o o₁ q₁) file at p) where
    -- the first word tells how many directions there are
    as_many : many (get_or words 0 0) number ≡ many (get_or five.value 0 0) number
    as_many = ap (λ (k : List ℕ). many (get_or k 0 0) number) five.stored.stored

    pub before-short : many (get_or words 0 0) number (drop p file) ≡ None → before (drop at file) ≡ None
    unfolding before
    before-short x =
        let n : many (get_or five.value 0 0) number (drop p file) ≡ None = subst (λ (r : Reader (List ℕ)). r (drop p file) ≡ None) as_many x in
        rw (five.reads, n)

    pub before-read : (o₂ : List ℕ) (q₂ next : ℕ) → Copied (many (get_or words 0 0) number) (λ l. l) file p o₁ q₁ o₂ q₂ next
        → Reads before (Begun (get_or words 0 0) (get_or words 3 0) text o o₂ q₂) file at next
    unfolding before
    before-read o₂ q₂ next marks =
        let d = subst (λ (r : Reader (List ℕ)). Copied r (λ l. l) file p o₁ q₁ o₂ q₂ next) as_many marks in
        record {
          value = record { five = five.value; marks = d.value };
          reads = rw (five.reads, d.reads);
          stored = record {
            objectives = ap (λ (k : List ℕ). get_or k 0 0) five.stored.stored;
            plans = ap (λ (k : List ℕ). get_or k 3 0) five.stored.stored;
            whole = reads-count number file at (Header words text o o₁ q₁) 5 p five;
            adds = adds-all text o₁ o₂ o q₁ q₂ five.value d.value five.stored.adds d.stored;
          };
        }

-- ---- the file by way of it

module _ {P : Type 0} (plan : ℕ → Reader P) where
  abbrev after-marks : Before → Reader (File P)
  after-marks b bytes = onward (many (count_of b) (plan (objectives_of b)) bytes) (λ ps. pure (file_of b ps))

  pub file_by_lem : (bytes : List ℕ) → file_by plan bytes ≡ onward (before bytes) after-marks
  unfolding file_by before many
  file_by_lem bytes = by_option (number bytes)
      (λ n. rw n)
      (λ a u. by_option (number a.rest)
      (λ n. rw (u, n))
      (λ b v. by_option (number b.rest)
      (λ n. rw (u, v, n))
      (λ c w. by_option (number c.rest)
      (λ n. rw (u, v, w, n))
      (λ d x. by_option (number d.rest)
      (λ n. rw (u, v, w, x, n))
      (λ e y. by_option (many a.value number e.rest)
      (λ n. rw (u, v, w, x, y, n))
      (λ k z. rw (u, v, w, x, y, z)))))))

  pub file_none : (bytes : List ℕ) → before bytes ≡ None → file_by plan bytes ≡ None
  file_none bytes e = file_by_lem bytes ∙ ap (λ (o : Option (Parsed Before)). onward o after-marks) e

  module _ (bytes : List ℕ) (b : Before) (mid : List ℕ) (e : before bytes ≡ pure b mid) where
    pub file_no_plans : many (count_of b) (plan (objectives_of b)) mid ≡ None → file_by plan bytes ≡ None
    file_no_plans n = file_by_lem bytes ∙ ap (λ (o : Option (Parsed Before)). onward o after-marks) e ∙ rw n

    pub file_read : (ps : List P) (rest : List ℕ) → many (count_of b) (plan (objectives_of b)) mid ≡ pure ps rest → file_by plan bytes ≡ pure (file_of b ps) rest
    file_read ps rest f = file_by_lem bytes ∙ ap (λ (o : Option (Parsed Before)). onward o after-marks) e ∙ rw f

-- ---- its numbers

five-places : (l rest : List ℕ) → length l ≡ 5 → get_or l 0 0 ∷ get_or l 1 0 ∷ get_or l 2 0 ∷ get_or l 3 0 ∷ get_or l 4 0 ∷ rest ≡ l ++ rest
five-places [] rest e = absurd (omega arith)
five-places (a ∷ []) rest e = absurd (omega arith)
five-places (a ∷ b ∷ []) rest e = absurd (omega arith)
five-places (a ∷ b ∷ c ∷ []) rest e = absurd (omega arith)
five-places (a ∷ b ∷ c ∷ d ∷ []) rest e = absurd (omega arith)
five-places (a ∷ b ∷ c ∷ d ∷ x ∷ []) rest e = refl
five-places (a ∷ b ∷ c ∷ d ∷ x ∷ y ∷ l) rest e = absurd (omega arith)

pub file_numbers_lem : {P : Type 0} (numbers : P → List ℕ) (b : Before) (ps : List P) → length b.five ≡ 5
    → file_numbers numbers (file_of b ps) ≡ (b.five ++ b.marks) ++ flatten (map numbers ps)
unfolding file_numbers
file_numbers_lem numbers b ps e =
    let t = flatten (map numbers ps) in
    five-places b.five (b.marks ++ t) e ∙ sym (append_assoc b.five b.marks t)
