-- Document 01, "Kept list": where the fronts of a pool part. "Whole fronts joined while they fit.", and the front after them, which may be split.
use Rattle.std.specs.Prelude.{ℕ, suc, Bool, ◌&&◌, List, ltb, length}
use Rattle.model.specs.Lists.{first_below}
use Rattle.model.specs.Front.{front, listing}
use Rattle.model.specs.Request.{Request, dominance}

-- front k, with those before it, exceeds the size
abbrev pub exceeds_size : Request → ℕ → Bool
exceeds_size r k = ltb r.size (length (listing (dominance r) r.count (suc k)))

-- "Whole fronts joined while they fit.": how many, and their plans
unfoldable pub whole_fronts : Request → ℕ
whole_fronts r = first_below (exceeds_size r) r.count

unfoldable pub before : Request → List ℕ
before r = listing (dominance r) r.count (whole_fronts r)

-- the front after them is split where there is one and they fall short of the size
unfoldable pub is_split : Request → Bool
is_split r = ltb (whole_fronts r) r.count && ltb (length (before r)) r.size

unfoldable pub split_front : Request → List ℕ
split_front r = front (dominance r) r.count (whole_fronts r)
