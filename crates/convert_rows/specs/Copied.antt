-- What is read from a file and written again, in model's words.
use Rattle.std.specs.Prelude.{ℕ, ◌≡◌, List, drop, Option, Some, None}
use Rattle.model.specs.PoolFile.{Reader, pure, number, written, written_all}
use Rattle.pool_number.specs.declared.Read.{Read}
use Rattle.pool_plans.specs.Blocks.{Reads, ReadsIs}
use Rattle.pool_form.specs.Form.{Adds}

-- a number that is read, and added to what is written
abbrev pub NumberCopied : List ℕ → ℕ → List ℕ → ℕ → List ℕ → ℕ → Option Read → Type 0
NumberCopied file at before o after o' (Some r) = (number (drop at file) ≡ pure r.number (drop r.next file)) × Adds (written r.number) before o after o'
NumberCopied file at before o after o' None = number (drop at file) ≡ None

module _ {A : Type 0} where
  -- the numbers of what a reader reads are added to what is written
  abbrev pub Copied : Reader A → (A → List ℕ) → List ℕ → ℕ → List ℕ → ℕ → List ℕ → ℕ → ℕ → Type 0
  Copied r numbers file at before o after o' next = Reads r (λ a. Adds (written_all (numbers a)) before o after o') file at next

  abbrev pub CopiedIs : Reader A → (A → List ℕ) → List ℕ → ℕ → List ℕ → ℕ → List ℕ → ℕ → Option ℕ → Type 0
  CopiedIs r numbers file at before o after o' = ReadsIs r (λ a. Adds (written_all (numbers a)) before o after o') file at
