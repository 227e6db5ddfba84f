-- What stands before a file's plans, and what a file turns into, in model's words.
use Rattle.std.specs.Prelude.{ℕ, ◌≡◌, List, ◌++◌, length, get_or, drop, Option, Some, None, Result, Ok, Err}
use Rattle.model.specs.declared.Refusal.{Refusal}
use Rattle.model.specs.PoolFile.{Reader, pure, number, many, written_all, File, ◌>>=◌}
use Rattle.pool_plans.specs.Blocks.{Reads, ReadsIs}
use Rattle.pool_form.specs.Form.{Adds, Whole}
use Rattle.convert_file.specs.declared.Head.{Head}

-- ---- before the plans

-- five numbers are read, stored and added to what is written
pub record Header (words before : List ℕ) (o : ℕ) (after : List ℕ) (o' : ℕ) (five : List ℕ) : Type 0 where
  pub stored : words ≡ five
  pub adds : Adds (written_all five) before o after o'

abbrev pub HeaderIs : List ℕ → ℕ → List ℕ → List ℕ → ℕ → List ℕ → ℕ → Option ℕ → Type 0
HeaderIs file at words before o after o' = ReadsIs (many 5 number) (Header words before o after o') file at

-- the five numbers and the directions
pub record Before : Type 0 where
  pub five : List ℕ
  pub marks : List ℕ

abbrev pub objectives_of : Before → ℕ
objectives_of b = get_or b.five 0 0

abbrev pub count_of : Before → ℕ
count_of b = get_or b.five 3 0

unfoldable pub before : Reader Before
before = do
  five ← many 5 number
  marks ← many (get_or five 0 0) number
  pure (record { five = five; marks = marks })

-- the file that plans make with what stands before them
module _ {P : Type 0} where
  abbrev pub file_of : Before → List P → File P
  file_of b plans = record {
    objectives = get_or b.five 0 0;
    divisions = get_or b.five 1 0;
    size = get_or b.five 2 0;
    count = get_or b.five 3 0;
    seed = get_or b.five 4 0;
    marks = b.marks;
    plans = plans;
  }

-- the answer's two numbers are those of what is read, all of which is added to what is written
pub record Begun (m count : ℕ) (text : List ℕ) (o : ℕ) (after : List ℕ) (o' : ℕ) (b : Before) : Type 0 where
  pub objectives : m ≡ objectives_of b
  pub plans : count ≡ count_of b
  pub whole : length b.five ≡ 5
  pub adds : Adds (written_all (b.five ++ b.marks)) text o after o'

abbrev pub HeadIs : List ℕ → ℕ → List ℕ → ℕ → List ℕ → ℕ → Option Head → Type 0
HeadIs file at text o after o' (Some h) = Reads before (Begun h.m h.count text o after o') file at h.next
HeadIs file at text o after o' None = before (drop at file) ≡ None

-- ---- the whole file

-- by the refusal and the text
abbrev pub TurnedIs : Option Refusal → List ℕ → List ℕ → Result ℕ Refusal → Type 0
TurnedIs refusal text after (Ok n) = (refusal ≡ None) × Whole text after n
TurnedIs refusal text after (Err r) = refusal ≡ Some r
