-- Refusal 10 of a selection, slice by slice.
use Prim.Native.Nat.{ℕ, ◌≤◌, ◌<◌}
use mathlib.Core.Path.{◌≡◌, sym}
use mathlib.Core.Bool.{true}
use borrow.Author.Tests.{lt-ltb, le-ltb}
use lib.Dec.{ltb}
use Rattle.model.specs.Refusal.{Room, too_short}

-- a slice is too short, for n plans and a size
module _ (room : Room) (size n : ℕ) where
  pub room-kept : room.kept < size → true ≡ too_short room size n
  room-kept h = sym (rw (lt-ltb room.kept size h))

  pub room-rules : size ≤ room.kept → room.rules < size → true ≡ too_short room size n
  room-rules h k = sym (rw (le-ltb room.kept size h, lt-ltb room.rules size k))

  pub room-fronts : size ≤ room.kept → size ≤ room.rules → room.fronts < n → true ≡ too_short room size n
  room-fronts h u k = sym (rw (le-ltb room.kept size h, le-ltb room.rules size u, lt-ltb room.fronts n k))

  pub room-lines : size ≤ room.kept → size ≤ room.rules → n ≤ room.fronts → ltb room.lines n ≡ too_short room size n
  room-lines h u k = sym (rw (le-ltb room.kept size h, le-ltb room.rules size u, le-ltb room.fronts n k))
