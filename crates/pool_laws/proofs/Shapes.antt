-- What holds of every file in good form: as many marks and plans as it says, and of each plan as many values and constraints, its values doubles.
use Prim.Native.Nat.{ℕ, zero, suc, ◌<◌}
use mathlib.Core.Path.{◌≡◌, sym, ap, ◌∙◌, subst}
use mathlib.Core.Bool.{Bool, true, false}
use mathlib.Core.List.{List, [], ◌∷◌, map}
use Rattle.list_laws.proofs.Options.{none-ne-some, some-injective}
use Rattle.std.specs.Prelude.{Some}
use native.Mathlib.Nat.{not-suc-le-zero}
use native.Mathlib.Omega.{arith}
use lib.Dec.{T, leb}
use lib.Ieee.{nan, binary64, fits}
use lib.Ieee.Bits.{of_bits-fits}
use lib.ListN.{length, get_or, drop, length-map}
use Rattle.model.specs.Real.{real}
use Rattle.model.specs.Plan.{Plan}
use Rattle.model.specs.PoolFile.{Parsed, Reader, Rows, Numbered, PoolFile, pure, number, many, rows, plan, measured, setting, numbered, file_by, parse_by, parse, if_none_left, max_file, opens_second, no_plan}
use Rattle.list_laws.proofs.Bools.{by_bool, by_option}
use Rattle.list_laws.proofs.Built.{map_at}
use Rattle.pool_file.specs.declared.Header.{Header}
use Rattle.pool_editions.specs.Editions.{plan_second, plan_in}
use Rattle.pool_file.specs.Parsing.{header_of, after_header, begins, file_in, parse_in}
use Rattle.pool_file.proofs.Editions.{parse_in_lem}
use Rattle.pool_file.proofs.Whole.{header-first}
use Rattle.pool_number.proofs.Options.{both_read, many_parts, many-length}

-- ---- each of many

module _ {A : Type 0} (r : Reader A) (Q : A → Type 0) (each : (bytes : List ℕ) (p : Parsed A) → r bytes ≡ Some p → Q p.value) (d : A) where
  many-each : (n : ℕ) (bytes : List ℕ) (l : List A) (rest : List ℕ) → many n r bytes ≡ pure l rest → (i : ℕ) → i < n → Q (get_or l i d)
  many-each zero bytes l rest e i h = absurd (not-suc-le-zero h)
  many-each (suc n) bytes l rest e zero h =
      let p = many_parts r n bytes l rest e in
      subst (λ (t : List A). Q (get_or t 0 d)) (sym p.values) (each bytes p.head p.first)
  many-each (suc n) bytes l rest e (suc i) h =
      let p = many_parts r n bytes l rest e in
      subst (λ (t : List A). Q (get_or t (suc i) d)) (sym p.values)
      (many-each n p.head.rest p.tail.value p.tail.rest p.later i (omega arith))

-- ---- a plan

pub record Shape (m : ℕ) (p : Plan) : Type 0 where
  pub row : length p.row ≡ m
  pub values : (j : ℕ) → j < length p.row → T (fits binary64 (get_or p.row j nan))
  pub constraints : length p.constraints ≡ p.constraint_count

-- what the words of a list stand for are doubles
reals_held : (words : List ℕ) (j : ℕ) → j < length (map real words) → T (fits binary64 (get_or (map real words) j nan))
reals_held words j h =
    subst (λ x. T (fits binary64 x)) (sym (map_at real words j nan 0 (omega (arith, length-map words real)))) (of_bits-fits binary64 (get_or words j 0))

-- as many values are read as there are objectives
row-length : (m : ℕ) (bytes : List ℕ) (p : Parsed Rows) → rows m bytes ≡ Some p → length p.value.values ≡ m
unfolding rows
row-length m bytes p e =
    let v = both_read (many m number bytes) _ _ e in
    let c = both_read (number v.0.rest) _ _ v.2 in
    let k = both_read (many c.0.value number c.0.rest) _ _ c.2 in
    subst (λ (t : Parsed Rows). length t.value.values ≡ m) (some-injective _ _ k.2)
    (many-length number m bytes v.0.value v.0.rest v.1)

measured-shape : (m : ℕ) (bytes : List ℕ) (p : Parsed Rows) → rows m bytes ≡ Some p → Shape m (measured m p.value)
measured-shape m bytes p e = record {
  row = length-map p.value.values real ∙ row-length m bytes p e;
  values = reals_held p.value.values;
  constraints = length-map p.value.constraints real;
}

-- the rows of a plan of the second edition are read between its number and its settings
record Between (m : ℕ) (r : Rows) : Type 0 where
  pub bytes : List ℕ
  pub parsed : Parsed Rows
  pub reads : rows m bytes ≡ Some parsed
  pub is : parsed.value ≡ r

rows_between : (m : ℕ) (bytes : List ℕ) (p : Parsed Numbered) → numbered m bytes ≡ Some p → Between m p.value.rows
unfolding numbered
rows_between m bytes p e =
    let n = both_read (number bytes) _ _ e in
    let r = both_read (rows m n.0.rest) _ _ n.2 in
    let c = both_read (number r.0.rest) _ _ r.2 in
    let k = both_read (many c.0.value setting c.0.rest) _ _ c.2 in
    record { bytes = n.0.rest; parsed = r.0; reads = r.1; is = ap (λ (t : Parsed Numbered). t.value.rows) (some-injective _ _ k.2) }

-- of either edition
plan-shape : (second : Bool) (m : ℕ) (bytes : List ℕ) (p : Parsed Plan) → plan_in second m bytes ≡ Some p → Shape m p.value
unfolding plan plan_second
plan-shape false m bytes p e =
    let q = both_read (rows m bytes) _ _ e in
    subst (λ (t : Parsed Plan). Shape m t.value) (some-injective _ _ q.2) (measured-shape m bytes q.0 q.1)
plan-shape true m bytes p e =
    let q = both_read (numbered m bytes) _ _ e in
    let b = rows_between m bytes q.0 q.1 in
    subst (λ (t : Parsed Plan). Shape m t.value) (some-injective _ _ q.2)
    (subst (λ (r : Rows). Shape m (measured m r)) b.is (measured-shape m b.bytes b.parsed b.reads))

-- ---- the file

pub record Whole (f : PoolFile) : Type 0 where
  pub marks : length f.marks ≡ f.objectives
  pub count : length f.plans ≡ f.count
  pub plans : (p : ℕ) → p < f.count → Shape f.objectives (get_or f.plans p no_plan)

after-whole : (second : Bool) (h : Header) (bytes : List ℕ) (p : Parsed PoolFile) → after_header second h bytes ≡ Some p → Whole p.value
unfolding after_header
after-whole second h bytes p e =
    let k = both_read (many h.m number bytes) _ _ e in
    let l = both_read (many h.count (plan_in second h.m) k.0.rest) _ _ k.2 in
    subst (λ (t : Parsed PoolFile). Whole t.value) (some-injective _ _ l.2) (record {
      marks = many-length number h.m bytes k.0.value k.0.rest k.1;
      count = many-length (plan_in second h.m) h.count k.0.rest l.0.value l.0.rest l.1;
      plans = many-each (plan_in second h.m) (Shape h.m) (plan-shape second h.m) no_plan h.count k.0.rest l.0.value l.0.rest l.1;
    })

file_whole : (second : Bool) (bytes : List ℕ) (p : Parsed PoolFile) → file_by (plan_in second) bytes ≡ Some p → Whole p.value
file_whole second bytes p e =
    let l = both_read (many 5 number bytes) (λ l. after_header second (header_of l)) _ (sym (header-first second bytes) ∙ e) in
    after-whole second (header_of l.0.value) l.0.rest p l.2

none_left : (l : List ℕ) (f g : PoolFile) → if_none_left l f ≡ Some g → f ≡ g
none_left [] f g e = some-injective _ _ e
none_left (b ∷ l) f g e = absurd (none-ne-some _ e)

in_whole : (second : Bool) (bytes : List ℕ) (f : PoolFile) → parse_in second bytes ≡ Some f → Whole f
unfolding parse_by file_in
in_whole second bytes f e = by_bool (leb (length bytes) max_file)
    (λ v. by_option (file_by (plan_in second) (drop (begins second) bytes))
    (λ n. absurd (none-ne-some _ (rw (v, n) at e)))
    (λ p u. subst (λ (t : PoolFile). Whole t) (none_left p.rest p.value f (rw (v, u) at e)) (file_whole second (drop (begins second) bytes) p u)))
    (λ v. absurd (none-ne-some _ (rw v at e)))

pub parse-whole : (bytes : List ℕ) (f : PoolFile) → parse bytes ≡ Some f → Whole f
parse-whole bytes f e = in_whole (opens_second bytes) bytes f (sym (parse_in_lem bytes) ∙ e)
