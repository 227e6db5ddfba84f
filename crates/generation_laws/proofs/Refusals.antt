-- Refusal 10 of a generation step, slice by slice.
use Prim.Native.Nat.{ℕ, ◌*◌, ◌≤◌, ◌<◌}
use mathlib.Core.Path.{◌≡◌, sym, ◌∙◌}
use mathlib.Core.Bool.{Bool, true, false, ◌&&◌, or-true, or-false}
use borrow.Author.Tests.{lt-ltb, le-ltb, lt-leb, le-leb}
use lib.Dec.{leb}
use Rattle.model.specs.Refusal.{Room, too_short, step_too_short}

-- a slice is too short: for the offspring, or for what a selection hands out from n plans and a size

module _ (size n dims : ℕ) (room : Room) (offspring : ℕ) where
  abbrev short : Bool
  short = step_too_short room offspring size n dims

  pub room-offspring : offspring < size * dims → true ≡ short
  room-offspring h = sym (rw (lt-ltb offspring (size * dims) h) (or-true (leb 2 n && too_short room size n)))

  module _ (a : size * dims ≤ offspring) where
    pub room-of-one : n < 2 → false ≡ short
    room-of-one h = sym (rw (le-ltb offspring (size * dims) a, lt-leb 2 n h))

    pub room-of-many : 2 ≤ n → (b : Bool) → b ≡ too_short room size n → b ≡ short
    room-of-many h b e = e ∙ sym (rw (le-ltb offspring (size * dims) a, le-leb 2 n h) (or-false (too_short room size n)))
