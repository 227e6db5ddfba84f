-- What the program puts into its array.
use Rattle.std.specs.Prelude.{ℕ, ◌≤◌, ◌≡◌, List, length, take, None}
use Rattle.model.specs.Lists.{over}
use Rattle.model.specs.Convert.{convert_refusal, convert_printed, Twins}

-- THE PROMISE of the program's answer: the first r bytes are what is printed for the bytes read, and the rest is as it was; where a file is not refused, they are
-- its twin in the other edition
pub record Prints (bytes before after : List ℕ) (r : ℕ) : Type 0 where
  pub count : r ≡ length (convert_printed bytes)
  pub text : after ≡ over (convert_printed bytes) before
  pub within : r ≤ length after
  pub twins : convert_refusal bytes ≡ None → Twins bytes (take r after)
