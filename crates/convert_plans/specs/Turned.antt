-- What plans turn into, in model's words.
use Rattle.std.specs.Prelude.{ℕ, ◌≡◌, Bool, ◌&&◌, eqb, length, drop, Option, Some, None}
use mathlib.Core.List.{List, [], map, flatten}
use Rattle.model.specs.PoolFile.{Reader, written_all, Rows, row_numbers, Numbered}
use Rattle.model.specs.Convert.{plan_numbers, numbered_from}
use Rattle.pool_plans.specs.Blocks.{Reads}
use Rattle.pool_form.specs.Form.{Adds}
use Rattle.convert_plans.specs.declared.Plain.{Plain}

-- ---- forwards: the numbers of plan i, and of plans numbered from 0

abbrev pub numbered_as : ℕ → Rows → List ℕ
numbered_as i r = plan_numbers (record { number = i; rows = r; settings = [] })

abbrev pub numbered_all : List Rows → List ℕ
numbered_all rs = flatten (map plan_numbers (numbered_from 0 rs))

-- ---- backwards: the numbers of a plan's rows, and of those of plans

abbrev pub rows_of : Numbered → List ℕ
rows_of p = row_numbers p.rows

abbrev pub rows_all : List Numbered → List ℕ
rows_all ps = flatten (map row_numbers (map (λ p. p.rows) ps))

-- plan i has its place as its number, and no settings
abbrev pub plain_as : ℕ → Numbered → Bool
plain_as i p = eqb p.number i && eqb (length p.settings) 0

-- what is read is held as a test says, and its numbers are added to what is written
pub record Holds {A : Type 0} (numbers : A → List ℕ) (test : A → Bool) (before : List ℕ) (o : ℕ) (after : List ℕ) (o' : ℕ) (held : Bool) (a : A) : Type 0 where
  pub adds : Adds (written_all (numbers a)) before o after o'
  pub told : held ≡ test a

module _ {A : Type 0} where
  abbrev pub PlainIs : Reader A → (A → List ℕ) → (A → Bool) → List ℕ → ℕ → List ℕ → ℕ → List ℕ → ℕ → Option Plain → Type 0
  PlainIs r numbers test file at before o after o' (Some p) = Reads r (Holds numbers test before o after o' p.held) file at p.next
  PlainIs r numbers test file at before o after o' None = r (drop at file) ≡ None
