-- What is read of a pool file.
use Rattle.std.specs.Prelude.{ℕ, ◌+◌, ◌≤◌, ◌≡◌, List, length}
use Rattle.model.specs.PoolFile.{max_file}

-- THE PROMISE of a file that is read: the array has room for one byte more than the longest file, and the r bytes read lie within it. That they are the
-- file's own no contract can say: programs are run on files of the longest length and of one byte more
pub record FileRead (room : List ℕ) (r : ℕ) : Type 0 where
  pub longer : length room ≡ max_file + 1
  pub within : r ≤ length room
