-- What a file has to be that is written and is to be read back.
use Rattle.std.specs.Prelude.{ℕ, ◌^◌, ◌<◌, ◌≡◌, List, [], ◌∷◌, ◌++◌, length}
use Rattle.model.specs.PoolFile.{Reader, pure, Rows, File, written_all}

module _ {A : Type 0} where
  -- something holds of every entry of a list
  abbrev pub Every : (A → Type 0) → List A → Type 0
  Every P [] = Unit {0}
  Every P (a ∷ l) = P a × Every P l

  -- a reader reads a thing back from bytes that are written for it, whatever follows them
  abbrev pub ReadFrom : Reader A → (A → List ℕ) → A → Type 0
  ReadFrom r bytes a = (rest : List ℕ) → r (bytes a ++ rest) ≡ pure a rest

  -- .. from the numbers that stand for it
  abbrev pub ReadBack : Reader A → (A → List ℕ) → A → Type 0
  ReadBack r numbers a = ReadFrom r (λ x. written_all (numbers x)) a

-- numbers that have a form: each is below 2^64
abbrev pub Word : ℕ → Type 0
Word n = n < 2 ^ 64

abbrev pub Words : List ℕ → Type 0
Words l = Every Word l

-- the numbers that stand for a plan of m values
pub record RowsOk (m : ℕ) (r : Rows) : Type 0 where
  pub whole : length r.values ≡ m
  pub values : Words r.values
  pub count : Word (length r.constraints)
  pub constraints : Words r.constraints

-- a file by the reader of its plans and the numbers that stand for each
pub record Writable {P : Type 0} (plan : ℕ → Reader P) (numbers : P → List ℕ) (f : File P) : Type 0 where
  pub objectives : Word f.objectives
  pub divisions : Word f.divisions
  pub size : Word f.size
  pub count : Word f.count
  pub seed : Word f.seed
  pub marks_long : length f.marks ≡ f.objectives
  pub marks : Words f.marks
  pub plans_long : length f.plans ≡ f.count
  pub plans : Every (ReadBack (plan f.objectives) numbers) f.plans
