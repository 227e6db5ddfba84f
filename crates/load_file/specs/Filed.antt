-- What a load in good form leaves.
use Rattle.std.specs.Prelude.{ℕ, List, length}
use Rattle.model.specs.Calls.{ChooseExit, choose_by}
use Rattle.model.specs.Load.{Load, filed_refusal, load_text}

abbrev pub filed_exit : Load → List ℕ → ChooseExit
filed_exit l out = choose_by (filed_refusal l (length out)) (load_text l) out
