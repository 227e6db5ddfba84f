-- What `write_load` leaves, in numbers and lists alone, as a program in another language takes it.
use Rattle.std.specs.Prelude.{ℕ, ◌≡◌, List, length, take, None, Some}
use Rattle.model.specs.Load.{Load, parse_load, load_refusal, load_of, Holds}
use Rattle.export_laws.specs.Coded.{code_number, Listed, listed}

-- THE PROMISE of `locustdomino_write_load`; `old` is the number that `length` had. The file that it hands out is the first `length` bytes of `out`
pub record LoadsWords (bytes entry : List ℕ) (old : ℕ) (exit : Listed) : Type 0 where
  pub whole : exit ≡ listed old (load_of bytes entry)
  pub refused : exit.code ≡ code_number (load_refusal bytes (length entry))
  pub holds : load_refusal bytes (length entry) ≡ None → (l : Load) → parse_load bytes ≡ Some l → Holds l (take exit.length exit.out)
