-- What gathering the children bred from leaves.
use Rattle.std.specs.Prelude.{ℕ, ◌+◌, ◌≡◌, cond, List, [], length}
use Rattle.std.proofs.lemmas.List.Edits.{sets}
use Rattle.model.specs.Lists.{has, over}
use Rattle.model.specs.Session.{record_of, block_of}

-- the words of a plan's last record, or none where its number waits
abbrev pub child_for : List ℕ → List ℕ → ℕ → List ℕ
child_for waiting history plan = cond (has waiting plan) [] (block_of history (record_of history plan))

-- words are put from a place on, and the place behind them is told
pub record Put (words : List ℕ) (at : ℕ) (entry exit : List ℕ) (r : ℕ) : Type 0 where
  pub put : exit ≡ sets entry at words
  pub behind : r ≡ at + length words

-- words stand at a slice's front, and how many they are is told
pub record Gathered (words entry exit : List ℕ) (r : ℕ) : Type 0 where
  pub laid : exit ≡ over words entry
  pub count : r ≡ length words
