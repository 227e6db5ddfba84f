-- What the reader of numbers answers, in model's words.
use Rattle.std.specs.Prelude.{ℕ, ◌-◌, ◌≡◌, List, length, drop, Option, Some, None}
use Rattle.model.specs.PoolFile.{Parsed, pure, number}
use Rattle.pool_number.specs.declared.Read.{Read}

-- model's answer as the code's: of n bytes, the number ends where so many are left
abbrev pub as_read : ℕ → Option (Parsed ℕ) → Option Read
as_read n None = None
as_read n (Some p) = Some (record { number = p.value; next = n - length p.rest })

-- the number that starts at a place
abbrev pub number_at : List ℕ → ℕ → Option Read
number_at bytes at = as_read (length bytes) (number (drop at bytes))

-- the same by cases: the bytes left are those from the place answered on
abbrev pub ReadIs : List ℕ → ℕ → Option Read → Type 0
ReadIs bytes at (Some r) = number (drop at bytes) ≡ pure r.number (drop r.next bytes)
ReadIs bytes at None = number (drop at bytes) ≡ None
