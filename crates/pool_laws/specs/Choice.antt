-- What `choose` answers and writes, for a request of words or of a file.
use Rattle.std.specs.Prelude.{ℕ, cond, List, ltb, length, Option, None, Some, Result}
use Rattle.model.specs.declared.Refusal.{Refusal}
use Rattle.model.specs.declared.Refusal.TheVariants as why
use Rattle.model.specs.declared.Edition.TheVariants.{First}
use Rattle.model.specs.Edition.{most_plans}
use Rattle.model.specs.Association.{Request}
use Rattle.model.specs.PoolFile.{request_text}
use Rattle.model.specs.Refusal.{Room, max_size, select_refusal}
use Rattle.model.specs.Calls.{ChooseExit, choose_by}

abbrev pub exit : Result ℕ Refusal → List ℕ → ChooseExit
exit r out = record { answer = r; out = out }

-- a text, where there is room for it
abbrev pub text_refusal : List ℕ → ℕ → Option Refusal
text_refusal text out = cond (ltb out (length text)) (Some why.Room) None

abbrev pub text_exit : List ℕ → List ℕ → ChooseExit
text_exit text out = choose_by (text_refusal text (length out)) text out

-- room for every list that a selection of edition 1 hands out
abbrev pub roomy : Room
roomy = record { kept = max_size; rules = max_size; fronts = most_plans First; lines = most_plans First }

-- the first of two refusals
abbrev pub first_some : Option Refusal → Option Refusal → Option Refusal
first_some None o = o
first_some (Some n) o = Some n

-- the refusal of a request whose listing is to be written: the selection's, or the text's; `file_refusal` is that of a file's request (`file_refusal_lem`)
abbrev pub list_refusal : Request → ℕ → Option Refusal
list_refusal r out = first_some (select_refusal r roomy) (text_refusal (request_text r) out)

abbrev pub list_exit : Request → List ℕ → ChooseExit
list_exit r out = choose_by (list_refusal r (length out)) (request_text r) out
