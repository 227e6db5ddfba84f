-- Document 02, M-109, "An ideal point that forgets": what a session that is opened with a window of w generations remembers of each, and the ideal.
use Rattle.std.specs.Prelude.{ℕ, ◌+◌, ◌-◌, ◌*◌, List, Float, length, get_or, drop, Option, None, Some}
use Rattle.std.specs.Float.Ieee.{lt}
use Rattle.model.specs.Lists.{list_below, best_from}
use Rattle.model.specs.Real.{real, bits, infinity}
use Rattle.model.specs.Association.{Request, objectives, value_of, shapers, least_from, ideal_of}
use Rattle.model.specs.Kept.{Selected}

-- "w is not 1 to 64": the longest window
abbrev pub max_window : ℕ
max_window = 64

-- how many past generations are remembered: with the present one they are "the last w generations"
abbrev pub most_remembered : Option ℕ → ℕ
most_remembered None = 0
most_remembered (Some w) = w - 1

-- a generation's own part of the ideal: "the least value per objective" of its pool, over the plans that shape the scale, whatever was before
unfoldable pub own_part : Request → ℕ → Float
own_part r j = least_from infinity (λ p. value_of r p j) (shapers r)

-- as it is remembered: "kept without going back through old plans"
unfoldable pub own_words : Request → List ℕ
own_words r = list_below (λ j. bits (own_part r j)) (objectives r)

-- the last n entries of a list, or all where it has no more
abbrev pub last_of : {A : Type 0} → ℕ → List A → List A
last_of n l = drop (length l - n) l

-- the own part of remembered generation g at objective j, of m objectives, in words from a place on: the oldest generation comes first
abbrev pub part_at : List ℕ → ℕ → ℕ → ℕ → ℕ → Float
part_at words at m g j = real (get_or words (at + (g * m + j)) 0)

-- the least of n generations so, from infinity; of equals the oldest stands
abbrev pub least_remembered : List ℕ → ℕ → ℕ → ℕ → ℕ → Float
least_remembered words at m n j = best_from lt infinity (λ g. part_at words at m g j) n

-- The ideal once a pool is bred from. "The ideal used is then the least value per objective over the pools of the last w generations, the present one included;
-- generations that split no front count too": the least of what the request starts from and of its pool. Without a window it is what the selection hands out,
-- and moves only where a front is split.
abbrev pub ideal_after : Option ℕ → Request → Selected → List Float
ideal_after None r sel = sel.ideal
ideal_after (Some w) r sel = list_below (ideal_of r) (objectives r)
