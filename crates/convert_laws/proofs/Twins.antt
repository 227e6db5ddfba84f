-- THERE AND BACK AGAIN: a file that is converted and the file that it is converted to are each converted to the other, and hold one pool.
use Prim.Native.Nat.{ℕ, ◌≤◌}
use mathlib.Core.Path.{◌≡◌, refl, ap, sym, subst, ◌∙◌}
use mathlib.Core.Bool.{Bool, true, false, cond, not, ◌&&◌, true≢false, false≢true}
use mathlib.Core.List.{List, [], ◌∷◌, append-nil}
use Rattle.list_laws.proofs.Options.{some-ne-none}
use Rattle.std.specs.Prelude.{Option, None, Some}
use borrow.Author.Tests.{le-leb, leb-true, eq-eqb, ne_eqb, eqb-true}
use lib.Dec.{leb}
use lib.ListN.{length, drop}
use Rattle.model.specs.declared.Refusal.{Refusal}
use Rattle.model.specs.declared.Refusal.TheVariants as why
use Rattle.model.specs.PoolFile.{Rows, rows, row_numbers, File, file_by, file_numbers, written_all, groups_of, first_form, max_file, parse_by, Numbered, numbered, opens_second, second_file, parse}
use Rattle.model.specs.Convert.{plan_numbers, second_form, forwards, plain_from, turns_back, backwards, held_refusal, converted_text, convert_refusal, Twins}
use Rattle.list_laws.proofs.Bools.{by_bool, by_option, and_left, and_right}
use Rattle.pool_laws.proofs.Shortest.{Bytes}
use Rattle.form_laws.specs.Writable.{RowsOk}
use Rattle.form_laws.proofs.Forms.{file_back, parsed-back}
use Rattle.convert_laws.specs.Formed.{NumberedOk, FileOk}
use Rattle.convert_laws.proofs.Forms.{Formed, bytes_rest, rows_forms, numbered_forms, file_forms}
use Rattle.convert_laws.proofs.Back.{rows_writable, numbered_writable}
use Rattle.convert_laws.proofs.Editions.{back-of-forwards, forwards-of-back, forwards_turns, forwards-words, backwards-words, opens_with}
use Rattle.convert_laws.proofs.Pools.{Wholly, parsed-wholly, wholly-parsed, pooled, first-pool, second-pool, same_print}

-- the form of 64 is that one byte
second_opens : (g : File Numbered) → second_form g ≡ 64 ∷ written_all (file_numbers plan_numbers g)
unfolding second_form written_all groups_of
second_opens g = refl

opens_64 : (g : File Numbered) → opens_second (second_form g) ≡ true
opens_64 g = ap opens_second (second_opens g)

-- ---- a file of the first edition that has a second

module _ (f : File Rows) (ok : FileOk RowsOk f) (other : f.objectives ≡ 64 → ⊥) (short : length (first_form f) ≤ max_file) (fits : length (second_form (forwards f)) ≤ max_file) where
  first : List ℕ
  first = first_form f

  second : List ℕ
  second = second_form (forwards f)

  opens_first : opens_second first ≡ false
  unfolding first first_form
  opens_first =
      ap opens_second (sym (append-nil (written_all (file_numbers row_numbers f)))) ∙ opens_with row_numbers f [] ∙ ne_eqb f.objectives 64 other

  read_first : parse_by (file_by rows) first ≡ Some f
  unfolding first first_form
  read_first = parsed-back rows row_numbers f (rows_writable f ok) short

  read-second : parse_by second_file second ≡ Some (forwards f)
  unfolding second second_file
  read-second =
      let g = forwards f in
      let t = written_all (file_numbers plan_numbers g) in
      wholly-parsed second_file (second_form g) g (record {
        short = le-leb (length (second_form g)) max_file fits;
        read =
            ap (λ (l : List ℕ). file_by numbered (drop 1 l)) (second_opens g) ∙ ap (file_by numbered) (sym (append-nil t))
            ∙ file_back numbered plan_numbers g (numbered_writable g (forwards-words f ok)) [];
      })

  -- forwards
  there_text : converted_text first ≡ second
  unfolding converted_text second
  there_text = rw (opens_first, read_first)

  there_accepted : convert_refusal first ≡ None
  unfolding convert_refusal
  there_accepted = rw (opens_first, read_first, le-leb (length (second_form (forwards f))) max_file fits)

  -- and back
  back-text : converted_text second ≡ first
  unfolding converted_text second first
  back-text = rw (opens_64 (forwards f), read-second) (ap first_form (back-of-forwards f))

  back-accepted : convert_refusal second ≡ None
  unfolding convert_refusal second
  back-accepted =
      rw (opens_64 (forwards f), read-second, forwards_turns f other, ap first_form (back-of-forwards f), le-leb (length (first_form f)) max_file short)

  -- one pool
  pool-first : parse first ≡ Some (pooled f)
  pool-first = first-pool first f opens_first read_first

  pool-second : parse second ≡ Some (pooled f)
  unfolding second
  pool-second = second-pool second (forwards f) (opens_64 (forwards f)) read-second ∙ ap (λ (x : File Rows). Some (pooled x)) (back-of-forwards f)

  pub there : Twins (first_form f) (second_form (forwards f))
  unfolding first second
  there = record {
    fits = fits;
    accepted = back-accepted;
    back = back-text;
    pool = pool-second ∙ sym pool-first;
    choice = same_print second first (pooled f) pool-second pool-first;
  }

  pub back : Twins (second_form (forwards f)) (first_form f)
  unfolding first second
  back = record {
    fits = short;
    accepted = there_accepted;
    back = there_text;
    pool = pool-first ∙ sym pool-second;
    choice = same_print first second (pooled f) pool-first pool-second;
  }

-- ---- from the bytes of a file that is not refused

abbrev held_when : Bool → Option Refusal
held_when t = cond t None (Some why.NotHeld)

held : (h : Bool) (text : List ℕ) → held_refusal h text ≡ None → (h && leb (length text) max_file) ≡ true
held h text e = by_bool (h && leb (length text) max_file) (λ t. t) (λ t. absurd (some-ne-none why.NotHeld (sym (ap held_when t) ∙ e)))

held_fits : (h : Bool) (text : List ℕ) → held_refusal h text ≡ None → length text ≤ max_file
held_fits h text e = leb-true (length text) max_file (and_right h _ (held h text e))

opened : (bytes : List ℕ) → opens_second bytes ≡ true → bytes ≡ 64 ∷ drop 1 bytes
opened [] o = absurd (false≢true o)
opened (b ∷ bytes) o = ap (λ (n : ℕ). n ∷ bytes) (eqb-true b 64 o)

inner : (g : File Numbered) → turns_back g ≡ true → g.objectives ≡ 64 → ⊥
unfolding turns_back
inner g t z = false≢true (sym (ap not (eq-eqb g.objectives 64 z)) ∙ and_right (plain_from 0 g.plans) _ t)

module _ (bytes : List ℕ) (b : Bytes bytes) where
  -- of the first edition
  module _ (o : opens_second bytes ≡ false) (f : File Rows) (e : parse_by (file_by rows) bytes ≡ Some f) where
    whole-first : Wholly (file_by rows) bytes f
    whole-first = parsed-wholly (file_by rows) bytes f e

    pub ok-first : FileOk RowsOk f
    ok-first = (file_forms rows row_numbers RowsOk rows_forms bytes f [] b whole-first.read).good

    pub form-first : first_form f ≡ bytes
    unfolding first_form
    form-first =
        sym ((file_forms rows row_numbers RowsOk rows_forms bytes f [] b whole-first.read).form ∙ append-nil (written_all (file_numbers row_numbers f)))

    not_64 : f.objectives ≡ 64 → ⊥
    unfolding first_form
    not_64 z =
        let w = written_all (file_numbers row_numbers f) in
        let t : opens_second bytes ≡ true = ap opens_second (sym form-first ∙ sym (append-nil w)) ∙ opens_with row_numbers f [] ∙ eq-eqb f.objectives 64 z in
        true≢false (sym t ∙ o)

    pub twins-first : held_refusal true (second_form (forwards f)) ≡ None → Twins bytes (second_form (forwards f))
    twins-first h =
        let t = there f ok-first not_64 (subst (λ (l : List ℕ). length l ≤ max_file) (sym form-first) (leb-true (length bytes) max_file whole-first.short))
        (held_fits true (second_form (forwards f)) h) in
        subst (λ (l : List ℕ). Twins l (second_form (forwards f))) form-first t

  -- of the second
  module _ (o : opens_second bytes ≡ true) (g : File Numbered) (e : parse_by second_file bytes ≡ Some g) where
    whole-second : Wholly second_file bytes g
    whole-second = parsed-wholly second_file bytes g e

    formed : Formed (file_numbers plan_numbers) (FileOk NumberedOk) (drop 1 bytes) g []
    unfolding second_file
    formed =
        file_forms numbered plan_numbers NumberedOk numbered_forms (drop 1 bytes) g [] (bytes_rest bytes (64 ∷ []) (drop 1 bytes) (opened bytes o) b) whole-second.read

    pub form-second : second_form g ≡ bytes
    form-second = second_opens g ∙ sym (opened bytes o ∙ ap (λ (l : List ℕ). 64 ∷ l) (formed.form ∙ append-nil (written_all (file_numbers plan_numbers g))))

    pub twins-second : held_refusal (turns_back g) (first_form (backwards g)) ≡ None → Twins bytes (first_form (backwards g))
    twins-second h =
        let f = backwards g in
        let turns = and_left (turns_back g) _ (held (turns_back g) (first_form f) h) in
        let same : second_form (forwards f) ≡ bytes = ap second_form (forwards-of-back g turns) ∙ form-second in
        let short = leb-true (length bytes) max_file whole-second.short in
        let t = back f (backwards-words g formed.good) (inner g turns) (held_fits (turns_back g) (first_form f) h) (subst (λ (l : List ℕ). length l ≤ max_file) (sym same) short) in
        subst (λ (l : List ℕ). Twins l (first_form f)) same t

  pub twins : convert_refusal bytes ≡ None → Twins bytes (converted_text bytes)
  unfolding convert_refusal converted_text
  twins h = by_bool (opens_second bytes)
      (λ o. by_option (parse_by second_file bytes)
      (λ n. absurd (some-ne-none why.SecondForm (rw (o, n) at h)))
      (λ g e. rw (o, e) (twins-second o g e (rw (o, e) at h))))
      (λ o. by_option (parse_by (file_by rows) bytes)
      (λ n. absurd (some-ne-none why.Form (rw (o, n) at h)))
      (λ f e. rw (o, e) (twins-first o f e (rw (o, e) at h))))
