-- the places of the first i entries are marked
use Rattle.std.proofs.Common.{◌≡◌, ℕ, ◌<◌, length, get_or, take}
use Rattle.model.specs.PoolFile.{place_of}
use Rattle.pool_places.proofs.mark_places.Given as goal

abbrev pub invariant-loop-i : goal.invariant-loop-i
invariant-loop-i l = (p : ℕ) → p < length l.initial.places → get_or l.places p 0 ≡ place_of (take l.i l.kept) p
