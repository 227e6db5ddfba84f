-- What `convert` leaves, in numbers and lists alone, as a program in another language takes it.
use Rattle.std.specs.Prelude.{ℕ, ◌≡◌, List, length, take, Option, None}
use Rattle.model.specs.declared.Refusal.{Refusal}
use Rattle.model.specs.Calls.{ChooseExit, choose_by, refused_by, handed_out}
use Rattle.model.specs.Convert.{converted_text, convert_refusal, Twins}
use Rattle.pool_laws.specs.Choice.{text_refusal}
use Rattle.export_laws.specs.Coded.{code_number, or_refusal, Listed, listed}

-- THE REFUSALS of `locustdomino_convert`: those of the call, and else 10 for a slice that is too short for the converted file
abbrev pub into_refusal : List ℕ → ℕ → Option Refusal
into_refusal bytes room = or_refusal (convert_refusal bytes) (text_refusal (converted_text bytes) room)

abbrev pub convert_into : List ℕ → List ℕ → ChooseExit
convert_into bytes out = choose_by (into_refusal bytes (length out)) (converted_text bytes) out

pub record ConvertsInto (bytes entry : List ℕ) (exit : ChooseExit) : Type 0 where
  pub whole : exit ≡ convert_into bytes entry
  pub refused : refused_by exit.answer ≡ into_refusal bytes (length entry)
  pub twins : into_refusal bytes (length entry) ≡ None → Twins bytes (handed_out exit.answer exit.out)

-- THE PROMISE of `locustdomino_convert`; `old` is the number that `length` had. The file that it hands out is the first `length` bytes of `out`
pub record ConvertsWords (bytes entry : List ℕ) (old : ℕ) (exit : Listed) : Type 0 where
  pub whole : exit ≡ listed old (convert_into bytes entry)
  pub refused : exit.code ≡ code_number (into_refusal bytes (length entry))
  pub twins : into_refusal bytes (length entry) ≡ None → Twins bytes (take exit.length exit.out)
