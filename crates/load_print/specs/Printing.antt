-- What the program puts into its array.
use Rattle.std.specs.Prelude.{ℕ, ◌≤◌, ◌≡◌, List, length, take, None, Some}
use Rattle.model.specs.Lists.{over}
use Rattle.model.specs.PoolFile.{max_file}
use Rattle.model.specs.Load.{Load, parse_load, load_refusal, load_printed, Holds}

-- THE PROMISE of the program's answer: the first r bytes are what is printed for the bytes read, and the rest is as it was; where a load is not refused, they
-- are a pool file that holds it
pub record Prints (bytes before after : List ℕ) (r : ℕ) : Type 0 where
  pub count : r ≡ length (load_printed bytes)
  pub text : after ≡ over (load_printed bytes) before
  pub within : r ≤ length after
  pub holds : load_refusal bytes max_file ≡ None → (l : Load) → parse_load bytes ≡ Some l → Holds l (take r after)
