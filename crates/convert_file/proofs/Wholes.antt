-- The whole file, by how far the reader gets: turned forwards, and turned back.
use Prim.Native.Nat.{ℕ, ◌≤◌, ◌<◌}
use mathlib.Core.Path.{◌≡◌, ap, ap₂, sym, subst, ◌∙◌}
use mathlib.Core.Bool.{true, false, and-false}
use mathlib.Core.List.{List, [], ◌∷◌, ◌++◌, map}
use Rattle.std.specs.Prelude.{Option, None, Some}
use native.Mathlib.Omega.{arith}
use borrow.Author.Tests.{le-leb, lt-leb, eq-eqb, ne_eqb}
use lib.ListN.{length, drop, drop_of_length-le}
use lib.Seq.{drop-cons}
use Rattle.model.specs.declared.Refusal.TheVariants as why
use Rattle.model.specs.PoolFile.{Reader, pure, many, written, written_all, if_none_left, max_file, parse_by, Rows, rows, row_numbers, File, file_by, file_numbers, first_form, Numbered, numbered, second_file}
use Rattle.model.specs.Convert.{plan_numbers, second_form, numbered_from, forwards, plain_from, turns_back, backwards, forwards_text, forwards_refusal, backwards_text, backwards_refusal}
use Rattle.pool_plans.specs.Blocks.{Reads}
use Rattle.pool_form.specs.Form.{Adds, Whole}
use Rattle.pool_form.proofs.Pieces.{adds_as, fitted, over-long}
use Rattle.convert_rows.specs.Copied.{Copied}
use Rattle.convert_rows.proofs.Copies.{adds-all, adds_one}
use Rattle.convert_plans.specs.declared.Plain.{Plain}
use Rattle.convert_plans.specs.Turned.{numbered_all, rows_all, Holds}
use Rattle.convert_file.specs.declared.Head.{Head}
use Rattle.convert_file.specs.Files.{Before, before, objectives_of, count_of, file_of, Begun}
use Rattle.convert_file.proofs.Heads.{file_none, file_no_plans, file_read, file_numbers_lem}

-- ---- whatever reads a file

module _ {A : Type 0} (r : Reader A) (file : List ℕ) where
  pub too_long : max_file < length file → parse_by r file ≡ None
  unfolding parse_by
  too_long h = rw (lt-leb (length file) max_file h)

  module _ (short : length file ≤ max_file) where
    pub broken : r file ≡ None → parse_by r file ≡ None
    unfolding parse_by
    broken e = rw (le-leb (length file) max_file short, e)

    ended : (a : A) (rest : List ℕ) → r file ≡ pure a rest → parse_by r file ≡ if_none_left rest a
    unfolding parse_by
    ended a rest e = rw (le-leb (length file) max_file short, e)

    pub runs_on : (a : A) (stop : ℕ) → r file ≡ pure a (drop stop file) → stop < length file → parse_by r file ≡ None
    runs_on a stop e h = ended a (drop stop file) e ∙ ap (λ (t : List ℕ). if_none_left t a) (drop-cons file stop 0 h)

    pub read_whole : (a : A) (stop : ℕ) → r file ≡ pure a (drop stop file) → length file ≤ stop → parse_by r file ≡ Some a
    read_whole a stop e h = ended a (drop stop file) e ∙ ap (λ (t : List ℕ). if_none_left t a) (drop_of_length-le file h)

-- ---- forwards

module _ (file : List ℕ) where
  pub on-long : max_file < length file → forwards_refusal (parse_by (file_by rows) file) ≡ Some why.Form
  on-long h = ap forwards_refusal (too_long (file_by rows) file h)

  module _ (short : length file ≤ max_file) where
    pub on_no_head : before file ≡ None → forwards_refusal (parse_by (file_by rows) file) ≡ Some why.Form
    on_no_head e = ap forwards_refusal (broken (file_by rows) file short (file_none rows file e))

    module _ (text o₁ : List ℕ) (q₁ : ℕ) (a : Adds (written 64) text 0 o₁ q₁) (o₂ : List ℕ) (q₂ : ℕ) (h : Head) (begun : Reads before (Begun h.m h.count o₁ q₁ o₂ q₂) file 0 h.next) where
      -- the plans that the head's numbers tell
      as_many : many h.count (rows h.m) ≡ many (count_of begun.value) (rows (objectives_of begun.value))
      as_many = ap₂ (λ (n m : ℕ). many n (rows m)) begun.stored.plans begun.stored.objectives

      pub on-no_plans : many h.count (rows h.m) (drop h.next file) ≡ None → forwards_refusal (parse_by (file_by rows) file) ≡ Some why.Form
      on-no_plans x =
          ap forwards_refusal
          (broken (file_by rows) file short (file_no_plans rows file begun.value (drop h.next file) begun.reads (subst (λ (r : Reader (List Rows)). r (drop h.next file) ≡ None) as_many x)))

      module _ (o₃ : List ℕ) (q₃ stop : ℕ) (c : Copied (many h.count (rows h.m)) numbered_all file h.next o₂ q₂ o₃ q₃ stop) where
        turned : Copied (many (count_of begun.value) (rows (objectives_of begun.value))) numbered_all file h.next o₂ q₂ o₃ q₃ stop
        turned = subst (λ (r : Reader (List Rows)). Copied r numbered_all file h.next o₂ q₂ o₃ q₃ stop) as_many c

        f : File Rows
        f = file_of begun.value turned.value

        reads : file_by rows file ≡ pure f (drop stop file)
        unfolding f
        reads = file_read rows file begun.value (drop h.next file) begun.reads turned.value (drop stop file) turned.reads

        pub on_runs_on : stop < length file → forwards_refusal (parse_by (file_by rows) file) ≡ Some why.Form
        on_runs_on h = ap forwards_refusal (runs_on (file_by rows) file short f stop reads h)

        -- the numbers of the file turned forwards
        numbers : 64 ∷ file_numbers plan_numbers (forwards f) ≡ (64 ∷ []) ++ ((begun.value.five ++ begun.value.marks) ++ numbered_all turned.value)
        unfolding f
        numbers = ap (λ (l : List ℕ). 64 ∷ l) (file_numbers_lem plan_numbers begun.value (numbered_from 0 turned.value) begun.stored.whole)

        adds : Adds (second_form (forwards f)) text 0 o₃ q₃
        unfolding second_form
        adds =
            adds_as text o₃ 0 q₃ _ _ (ap written_all (sym numbers))
            (adds-all text o₁ o₃ 0 q₁ q₃ (64 ∷ []) ((begun.value.five ++ begun.value.marks) ++ numbered_all turned.value) (adds_one text o₁ 0 q₁ 64 a)
            (adds-all o₁ o₂ o₃ q₁ q₂ q₃ (begun.value.five ++ begun.value.marks) (numbered_all turned.value) begun.stored.adds turned.stored))

        module _ (all : length file ≤ stop) (room : length text ≡ max_file) where
          parsed : parse_by (file_by rows) file ≡ Some f
          parsed = read_whole (file_by rows) file short f stop reads all

          size : length o₃ ≡ max_file
          size = adds.same ∙ room

          pub on-over : max_file < q₃ → forwards_refusal (parse_by (file_by rows) file) ≡ Some why.NotHeld
          on-over k =
              let l = over-long (second_form (forwards f)) text o₃ q₃ adds (omega (arith, size)) in
              ap forwards_refusal parsed ∙ rw (lt-leb (length (second_form (forwards f))) max_file (omega (arith, size)))

          pub on-held : q₃ ≤ max_file → (forwards_refusal (parse_by (file_by rows) file) ≡ None) × Whole (forwards_text (parse_by (file_by rows) file)) o₃ q₃
          on-held k =
              let z = fitted (second_form (forwards f)) text o₃ q₃ adds (omega (arith, size)) in (
                ap forwards_refusal parsed ∙ rw (le-leb (length (second_form (forwards f))) max_file (omega (arith, size, z.within))),
                subst (λ (t : Option (File Rows)). Whole (forwards_text t) o₃ q₃) (sym parsed) z,
              )

-- ---- backwards

module _ (file : List ℕ) where
  pub back_long : max_file < length file → backwards_refusal (parse_by second_file file) ≡ Some why.SecondForm
  back_long h = ap backwards_refusal (too_long second_file file h)

  module _ (short : length file ≤ max_file) where
    pub back_no_head : before (drop 1 file) ≡ None → backwards_refusal (parse_by second_file file) ≡ Some why.SecondForm
    unfolding second_file
    back_no_head e = ap backwards_refusal (broken second_file file short (file_none numbered (drop 1 file) e))

    module _ (text o₂ : List ℕ) (q₂ : ℕ) (h : Head) (begun_2 : Reads before (Begun h.m h.count text 0 o₂ q₂) file 1 h.next) where
      abbrev b : Before
      b = begun_2.value

      as_many_2 : many h.count (numbered h.m) ≡ many (count_of b) (numbered (objectives_of b))
      as_many_2 = ap₂ (λ (n m : ℕ). many n (numbered m)) begun_2.stored.plans begun_2.stored.objectives

      pub back-no_plans : many h.count (numbered h.m) (drop h.next file) ≡ None → backwards_refusal (parse_by second_file file) ≡ Some why.SecondForm
      unfolding second_file
      back-no_plans x =
          ap backwards_refusal
          (broken second_file file short
          (file_no_plans numbered (drop 1 file) b (drop h.next file) begun_2.reads (subst (λ (r : Reader (List Numbered)). r (drop h.next file) ≡ None) as_many_2 x)))

      module _ (o₃ : List ℕ) (q₃ : ℕ) (p : Plain) (c : Reads (many h.count (numbered h.m)) (Holds rows_all (plain_from 0) o₂ q₂ o₃ q₃ p.held) file h.next p.next) where
        turned_2 : Reads (many (count_of b) (numbered (objectives_of b))) (Holds rows_all (plain_from 0) o₂ q₂ o₃ q₃ p.held) file h.next p.next
        turned_2 = subst (λ (r : Reader (List Numbered)). Reads r (Holds rows_all (plain_from 0) o₂ q₂ o₃ q₃ p.held) file h.next p.next) as_many_2 c

        g : File Numbered
        g = file_of b turned_2.value

        reads_2 : second_file file ≡ pure g (drop p.next file)
        unfolding g second_file
        reads_2 = file_read numbered (drop 1 file) b (drop h.next file) begun_2.reads turned_2.value (drop p.next file) turned_2.reads

        pub back_runs_on : p.next < length file → backwards_refusal (parse_by second_file file) ≡ Some why.SecondForm
        back_runs_on h = ap backwards_refusal (runs_on second_file file short g p.next reads_2 h)

        -- the numbers of the file turned back
        numbers_2 : file_numbers row_numbers (backwards g) ≡ (b.five ++ b.marks) ++ rows_all turned_2.value
        unfolding g
        numbers_2 = file_numbers_lem row_numbers b (map (λ p. p.rows) turned_2.value) begun_2.stored.whole

        adds_2 : Adds (first_form (backwards g)) text 0 o₃ q₃
        unfolding first_form
        adds_2 =
            adds_as text o₃ 0 q₃ _ _ (ap written_all (sym numbers_2))
            (adds-all text o₂ o₃ 0 q₂ q₃ (b.five ++ b.marks) (rows_all turned_2.value) begun_2.stored.adds turned_2.stored.adds)

        module _ (all : length file ≤ p.next) where
          parsed_2 : parse_by second_file file ≡ Some g
          parsed_2 = read_whole second_file file short g p.next reads_2 all

          -- what the first edition cannot hold
          not-held : turns_back g ≡ false → backwards_refusal (parse_by second_file file) ≡ Some why.NotHeld
          not-held t = ap backwards_refusal parsed_2 ∙ rw t

          pub back-not_plain : p.held ≡ false → backwards_refusal (parse_by second_file file) ≡ Some why.NotHeld
          unfolding turns_back g
          back-not_plain t = not-held (rw (sym turned_2.stored.told ∙ t))

          pub back-inner : h.m ≡ 64 → backwards_refusal (parse_by second_file file) ≡ Some why.NotHeld
          unfolding turns_back g
          back-inner t = not-held (rw (eq-eqb (objectives_of b) 64 (sym begun_2.stored.objectives ∙ t)) (and-false (plain_from 0 turned_2.value)))

          module _ (room : length text ≡ max_file) where
            size_2 : length o₃ ≡ max_file
            size_2 = adds_2.same ∙ room

            pub back-over : max_file < q₃ → backwards_refusal (parse_by second_file file) ≡ Some why.NotHeld
            back-over k =
                let l = over-long (first_form (backwards g)) text o₃ q₃ adds_2 (omega (arith, size_2)) in
                ap backwards_refusal parsed_2 ∙ rw (lt-leb (length (first_form (backwards g))) max_file (omega (arith, size_2)), and-false (turns_back g))

            turns : p.held ≡ true → (h.m ≡ 64 → ⊥) → turns_back g ≡ true
            unfolding turns_back g
            turns t n = rw (sym turned_2.stored.told ∙ t, ne_eqb (objectives_of b) 64 (λ z. n (begun_2.stored.objectives ∙ z)))

            pub back-held : p.held ≡ true → (h.m ≡ 64 → ⊥) → q₃ ≤ max_file → (backwards_refusal (parse_by second_file file) ≡ None) × Whole (backwards_text (parse_by second_file file)) o₃ q₃
            back-held t n k =
                let z = fitted (first_form (backwards g)) text o₃ q₃ adds_2 (omega (arith, size_2)) in (
                  ap backwards_refusal parsed_2 ∙ rw (turns t n, le-leb (length (first_form (backwards g))) max_file (omega (arith, size_2, z.within))),
                  subst (λ (t : Option (File Numbered)). Whole (backwards_text t) o₃ q₃) (sym parsed_2) z,
                )
