-- Document 02, M-111, "Pool files, second edition": the converter from each edition to the other, and what the call owes.
use Rattle.std.specs.Prelude.{ℕ, suc, ◌≤◌, ◌≡◌, Bool, true, cond, not, ◌&&◌, eqb, leb, length, Option, None, Some}
use mathlib.Core.List.{List, [], ◌∷◌, ◌++◌, map, flatten}
use Rattle.model.specs.declared.Refusal.{Refusal}
use Rattle.model.specs.declared.Refusal.TheVariants as why
use Rattle.model.specs.Plan.{Setting}
use Rattle.model.specs.PoolFile.{Rows, rows, File, file_by, written_all, row_numbers, file_numbers, first_form, max_file, parse_by, Numbered, opens_second, second_file, parse}
use Rattle.model.specs.Calls.{ChooseExit, choose_by, refused_by, handed_out, printed_by, printed}

-- ---- the second edition as it is written

abbrev pub setting_numbers : Setting → List ℕ
setting_numbers x = x.param ∷ x.kind ∷ x.value ∷ []

abbrev pub plan_numbers : Numbered → List ℕ
plan_numbers p = p.number ∷ (row_numbers p.rows ++ (length p.settings ∷ flatten (map setting_numbers p.settings)))

unfoldable pub second_form : File Numbered → List ℕ
second_form f = written_all (64 ∷ file_numbers plan_numbers f)

-- ---- forwards

-- "numbering plans from 0": from n on, none with settings
unfoldable pub numbered_from : ℕ → List Rows → List Numbered
numbered_from n [] = []
numbered_from n (r ∷ rs) = record { number = n; rows = r; settings = [] } ∷ numbered_from (suc n) rs

abbrev pub forwards : File Rows → File Numbered
forwards f = record {
  objectives = f.objectives;
  divisions = f.divisions;
  size = f.size;
  count = f.count;
  seed = f.seed;
  marks = f.marks;
  plans = numbered_from 0 f.plans;
}

-- ---- backwards

-- "Backwards it accepts only numbers 0, 1, 2 onwards and no settings"
unfoldable pub plain_from : ℕ → List Numbered → Bool
plain_from n [] = true
plain_from n (p ∷ ps) = eqb p.number n && (eqb (length p.settings) 0 && plain_from (suc n) ps)

-- "turning back an inner m of 64 meets 18"
unfoldable pub turns_back : File Numbered → Bool
turns_back f = plain_from 0 f.plans && not (eqb f.objectives 64)

abbrev pub backwards : File Numbered → File Rows
backwards f = record {
  objectives = f.objectives;
  divisions = f.divisions;
  size = f.size;
  count = f.count;
  seed = f.seed;
  marks = f.marks;
  plans = map (λ p. p.rows) f.plans;
}

-- ---- the converter

-- 18: "one that the first edition cannot hold, or a converted file over 65,536 bytes, last"
abbrev pub held_refusal : Bool → List ℕ → Option Refusal
held_refusal held text = cond (held && leb (length text) max_file) None (Some why.NotHeld)

abbrev pub forwards_text : Option (File Rows) → List ℕ
forwards_text None = []
forwards_text (Some f) = second_form (forwards f)

abbrev pub forwards_refusal : Option (File Rows) → Option Refusal
forwards_refusal None = Some why.Form
forwards_refusal (Some f) = held_refusal true (second_form (forwards f))

abbrev pub backwards_text : Option (File Numbered) → List ℕ
backwards_text None = []
backwards_text (Some f) = first_form (backwards f)

abbrev pub backwards_refusal : Option (File Numbered) → Option Refusal
backwards_refusal None = Some why.SecondForm
backwards_refusal (Some f) = held_refusal (turns_back f) (first_form (backwards f))

-- "The converter turns a file opening with 64 back and any other forward"; "It looks at 1, 17 and 18 only"
unfoldable pub converted_text : List ℕ → List ℕ
converted_text bytes = cond (opens_second bytes) (backwards_text (parse_by second_file bytes)) (forwards_text (parse_by (file_by rows) bytes))

unfoldable pub convert_refusal : List ℕ → Option Refusal
convert_refusal bytes = cond (opens_second bytes) (backwards_refusal (parse_by second_file bytes)) (forwards_refusal (parse_by (file_by rows) bytes))

-- ---- the call

unfoldable pub convert_of : List ℕ → List ℕ → ChooseExit
convert_of bytes out = choose_by (convert_refusal bytes) (converted_text bytes) out

-- a file and what it is converted to
pub record Twins (bytes text : List ℕ) : Type 0 where
  pub fits : length text ≤ max_file
  -- "there and back again gives the same bytes"
  pub accepted : convert_refusal text ≡ None
  pub back : converted_text text ≡ bytes
  -- both hold one pool, and `choose` prints the same for both
  pub pool : parse text ≡ parse bytes
  pub choice : printed text ≡ printed bytes

-- THE PROMISE of `convert`
pub record Converts (bytes entry : List ℕ) (exit : ChooseExit) : Type 0 where
  pub whole : exit ≡ convert_of bytes entry
  pub refused : refused_by exit.answer ≡ convert_refusal bytes
  pub twins : convert_refusal bytes ≡ None → Twins bytes (handed_out exit.answer exit.out)

-- what the program prints
unfoldable pub convert_printed : List ℕ → List ℕ
convert_printed bytes = printed_by (convert_refusal bytes) (converted_text bytes)
