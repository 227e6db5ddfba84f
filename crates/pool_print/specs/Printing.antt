-- What the program puts into its array of text.
use Rattle.std.specs.Prelude.{ℕ, ◌≤◌, ◌≡◌, List, length, take, None, Some}
use Rattle.model.specs.Lists.{over}
use Rattle.model.specs.PoolFile.{PoolFile, parse}
use Rattle.model.specs.Refusal.{choose_refusal}
use Rattle.model.specs.Calls.{printed, max_text, Tells}

-- THE PROMISE of the program's answer: the first r bytes are the text that document 01 gives for the file's bytes, and the rest is as it was; where a file is
-- not refused, the kept list that they tell meets demand 3
pub record Prints (file before after : List ℕ) (r : ℕ) : Type 0 where
  pub count : r ≡ length (printed file)
  pub text : after ≡ over (printed file) before
  pub within : r ≤ length after
  pub demand3 : choose_refusal file max_text ≡ None → (f : PoolFile) → parse file ≡ Some f → f.size ≤ f.count → Tells f (take r after)
