-- Laws of plans turned from one edition to the other: one, and one more.
use Prim.Native.Nat.{ℕ, suc, ◌+◌, ◌<◌}
use mathlib.Core.Path.{◌≡◌, refl, ap, ap₂, sym, ◌∙◌}
use mathlib.Core.Bool.{Bool, true, ◌&&◌, and-true, and_assoc}
use mathlib.Core.List.{List, [], ◌∷◌, ◌++◌, map, map-append, flatten, append-nil, append_assoc}
use Rattle.std.specs.Prelude.{None, Some}
use native.Mathlib.Omega.{arith}
use lib.Dec.{eqb}
use lib.ListN.{length, drop}
use Rattle.model.specs.PoolFile.{pure, number, many, written, written_all, Rows, rows, row_numbers, setting, Numbered, numbered}
use Rattle.model.specs.Convert.{plan_numbers, numbered_from, plain_from}
use Rattle.pool_plans.specs.Blocks.{Reads}
use Rattle.pool_plans.proofs.Storing.{reads_none, reads_more, reads_stop, reads-count}
use Rattle.pool_settings.specs.Passing.{PassedIs}
use Rattle.pool_form.specs.Form.{Adds}
use Rattle.pool_form.proofs.Pieces.{adds_none, adds_as}
use Rattle.form_laws.proofs.Lists.{written_none}
use Rattle.convert_rows.specs.Copied.{Copied}
use Rattle.convert_rows.proofs.Copies.{adds-all, adds_one}
use Rattle.convert_plans.specs.declared.Plain.{Plain}
use Rattle.convert_plans.specs.Turned.{numbered_as, numbered_all, rows_of, rows_all, plain_as, Holds, PlainIs}

-- ---- one plan more at the end

flat-more : {A : Type 0} (f : A → List ℕ) (l : List A) (a : A) → flatten (map f (l ++ (a ∷ []))) ≡ flatten (map f l) ++ f a
unfolding flatten
flat-more f [] a = append-nil (f a)
flat-more f (x ∷ l) a = ap (λ (t : List ℕ). f x ++ t) (flat-more f l a) ∙ sym (append_assoc (f x) (flatten (map f l)) (f a))

abbrev bare : ℕ → Rows → Numbered
bare i r = record { number = i; rows = r; settings = [] }

numbered_more : (n : ℕ) (rs : List Rows) (r : Rows) → numbered_from n (rs ++ (r ∷ [])) ≡ numbered_from n rs ++ (bare (n + length rs) r ∷ [])
unfolding numbered_from
numbered_more n [] r = ap (λ (i : ℕ). bare i r ∷ []) (omega arith)
numbered_more n (x ∷ rs) r =
    let e : suc n + length rs ≡ n + suc (length rs) = omega arith in
    ap (λ (l : List Numbered). bare n x ∷ l) (numbered_more (suc n) rs r ∙ ap (λ (i : ℕ). numbered_from (suc n) rs ++ (bare i r ∷ [])) e)

numbers_more : (rs : List Rows) (r : Rows) (i : ℕ) → length rs ≡ i → numbered_all (rs ++ (r ∷ [])) ≡ numbered_all rs ++ numbered_as i r
numbers_more rs r i e =
    ap (λ (l : List Numbered). flatten (map plan_numbers l)) (numbered_more 0 rs r ∙ ap (λ (k : ℕ). numbered_from 0 rs ++ (bare k r ∷ [])) (omega arith))
    ∙ flat-more plan_numbers (numbered_from 0 rs) (bare i r)

rows_more : (ps : List Numbered) (p : Numbered) → rows_all (ps ++ (p ∷ [])) ≡ rows_all ps ++ rows_of p
rows_more ps p =
    ap (λ (l : List Rows). flatten (map row_numbers l)) (map-append (λ p. p.rows) ps (p ∷ [])) ∙ flat-more row_numbers (map (λ p. p.rows) ps) p.rows

plain_more : (n : ℕ) (ps : List Numbered) (p : Numbered) → plain_from n (ps ++ (p ∷ [])) ≡ (plain_from n ps && plain_as (n + length ps) p)
unfolding plain_from
plain_more n [] p =
    let e : n ≡ n + 0 = omega arith in
    ap (λ (b : Bool). eqb p.number n && b) (and-true (eqb (length p.settings) 0)) ∙ ap (λ (i : ℕ). plain_as i p) e
plain_more n (x ∷ ps) p =
    let e : suc n + length ps ≡ n + suc (length ps) = omega arith in
    let a = eqb x.number n in
    let b = eqb (length x.settings) 0 in
    let c = plain_from (suc n) ps in
    let d = plain_as (n + suc (length ps)) p in
    ap (λ (t : Bool). a && (b && t)) (plain_more (suc n) ps p ∙ ap (λ (i : ℕ). c && plain_as i p) e)
    ∙ ap (λ (t : Bool). a && t) (sym (and_assoc b c d)) ∙ sym (and_assoc a (b && c) d)

-- ---- forwards: plan i

module _ (file : List ℕ) (at m i : ℕ) (before : List ℕ) (o : ℕ) (o₁ : List ℕ) (q₁ : ℕ) (a : Adds (written i) before o o₁ q₁) (o₂ : List ℕ) (q₂ next : ℕ)
    (d : Copied (rows m) row_numbers file at o₁ q₁ o₂ q₂ next) where
  pub number-turned : (o₃ : List ℕ) (q₃ : ℕ) → Adds (written 0) o₂ q₂ o₃ q₃ → Copied (rows m) (numbered_as i) file at before o o₃ q₃ next
  unfolding flatten
  number-turned o₃ q₃ b =
      let ns = row_numbers d.value in
      record {
        value = d.value;
        reads = d.reads;
        stored =
            adds-all before o₁ o₃ o q₁ q₃ (i ∷ []) (ns ++ (0 ∷ [])) (adds_one before o₁ o q₁ i a)
            (adds-all o₁ o₂ o₃ q₁ q₂ q₃ ns (0 ∷ []) d.stored (adds_one o₂ o₃ q₂ q₃ 0 b));
      }

-- .. and so many

module _ (file : List ℕ) (at m : ℕ) (before : List ℕ) (o : ℕ) where
  pub numbered_none : Copied (many 0 (rows m)) numbered_all file at before o before o at
  unfolding numbered_from flatten
  numbered_none =
      reads_none (rows m) file at (λ rs. Adds (written_all (numbered_all rs)) before o before o) (adds_as before before o o [] _ (sym written_none) (adds_none before o))

  module _ (i p : ℕ) (mid : List ℕ) (q : ℕ) (w : Copied (many i (rows m)) numbered_all file at before o mid q p) where
    abbrev so_far : List Rows → Type 0
    so_far rs = Adds (written_all (numbered_all rs)) before o mid q

    pub numbered_stop : (n : ℕ) → i < n → rows m (drop p file) ≡ None → many n (rows m) (drop at file) ≡ None
    numbered_stop n h e = reads_stop (rows m) file at so_far i p w n h e

    pub numbered_next : (after : List ℕ) (o' next : ℕ) → Copied (rows m) (numbered_as i) file p mid q after o' next
        → Copied (many (i + 1) (rows m)) numbered_all file at before o after o' next
    numbered_next after o' next d =
        let l = reads-count (rows m) file at so_far i p w in
        reads_more (rows m) file at so_far i p w d.value next d.reads (λ rs. Adds (written_all (numbered_all rs)) before o after o')
        (adds_as before after o o' _ _ (ap written_all (sym (numbers_more w.value d.value i l)))
        (adds-all before mid after o q o' (numbered_all w.value) (numbered_as i d.value) w.stored d.stored))

-- ---- backwards: plan i

module _ (file : List ℕ) (at m : ℕ) where
  pub plain_no_number : number (drop at file) ≡ None → numbered m (drop at file) ≡ None
  unfolding numbered
  plain_no_number e = rw e

  module _ (n p : ℕ) (e : number (drop at file) ≡ pure n (drop p file)) where
    pub plain_no_rows : rows m (drop p file) ≡ None → numbered m (drop at file) ≡ None
    unfolding numbered
    plain_no_rows y = rw (e, y)

    module _ (before : List ℕ) (o : ℕ) (after : List ℕ) (o' q : ℕ) (turned : Copied (rows m) row_numbers file p before o after o' q) where
      pub plain_no_count : number (drop q file) ≡ None → numbered m (drop at file) ≡ None
      unfolding numbered
      plain_no_count y = rw (e, turned.reads, y)

      module _ (k s : ℕ) (f : number (drop q file) ≡ pure k (drop s file)) where
        pub plain_no_settings : many k setting (drop s file) ≡ None → numbered m (drop at file) ≡ None
        unfolding numbered
        plain_no_settings z = rw (e, turned.reads, f, z)

        pub plain_turned : (i next : ℕ) → PassedIs (many k setting) file s (Some next) → (held : Bool) → held ≡ (eqb n i && eqb k 0)
            → Reads (numbered m) (Holds rows_of (plain_as i) before o after o' held) file at next
        unfolding numbered
        plain_turned i next z held h =
            let l : length z.value ≡ k = reads-count setting file s _ k next z in
            record {
              value = record { number = n; rows = turned.value; settings = z.value };
              reads = rw (e, turned.reads, f, z.reads);
              stored = record { adds = turned.stored; told = h ∙ ap (λ (j : ℕ). eqb n i && eqb j 0) (sym l) };
            }

-- .. and so many

module _ (file : List ℕ) (at m : ℕ) (before : List ℕ) (o : ℕ) where
  abbrev pub Turned : ℕ → List ℕ → ℕ → Bool → ℕ → Type 0
  Turned i after o' held p = Reads (many i (numbered m)) (Holds rows_all (plain_from 0) before o after o' held) file at p

  pub plain_none : Turned 0 before o true at
  unfolding flatten plain_from
  plain_none =
      reads_none (numbered m) file at (Holds rows_all (plain_from 0) before o before o true)
      (record { adds = adds_as before before o o [] _ (sym written_none) (adds_none before o); told = refl })

  module _ (i p : ℕ) (mid : List ℕ) (q : ℕ) (held : Bool) (w : Turned i mid q held p) where
    pub plain_stop : (n : ℕ) → i < n → numbered m (drop p file) ≡ None → many n (numbered m) (drop at file) ≡ None
    plain_stop n h e = reads_stop (numbered m) file at (Holds rows_all (plain_from 0) before o mid q held) i p w n h e

    pub plain_next : (r : Plain) (after : List ℕ) (o' : ℕ) → PlainIs (numbered m) rows_of (plain_as i) file p mid q after o' (Some r)
        → Turned (i + 1) after o' (held && r.held) r.next
    plain_next r after o' d =
        let l = reads-count (numbered m) file at (Holds rows_all (plain_from 0) before o mid q held) i p w in
        reads_more (numbered m) file at (Holds rows_all (plain_from 0) before o mid q held) i p w d.value r.next d.reads
        (Holds rows_all (plain_from 0) before o after o' (held && r.held))
        (record {
          adds =
              adds_as before after o o' _ _ (ap written_all (sym (rows_more w.value d.value)))
              (adds-all before mid after o q o' (rows_all w.value) (rows_of d.value) w.stored.adds d.stored.adds);
          told =
              ap₂ (λ (x y : Bool). x && y) w.stored.told (d.stored.told ∙ ap (λ (k : ℕ). plain_as k d.value) (sym l))
              ∙ sym (plain_more 0 w.value d.value ∙ ap (λ (k : ℕ). plain_from 0 w.value && plain_as k d.value) (omega arith));
        })
