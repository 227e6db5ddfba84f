-- What demand 3 rests on.
use Rattle.std.specs.Prelude.{ℕ, ◌≤◌, ◌<◌, ◌≡◌, false, length}
use Rattle.model.specs.Papers.Deb2002.{in_first, in_front}
use Rattle.model.specs.Association.{Request, objectives, dominance}
use Rattle.model.specs.Kept.{whole_fronts, before, split_front}
use Rattle.model.specs.Refusal.{bad_directions, bad_divisions, bad_pool}
use Rattle.list_laws.specs.Occ.{Exactly}

-- a request to which refusals 2, 4 and 8 do not apply, with plans that have as many values as there are objectives
pub record Accepted (r : Request) : Type 0 where
  pub directions : bad_directions r.marks ≡ false
  pub divisions : bad_divisions (objectives r) r.divisions ≡ false
  pub pool : bad_pool r ≡ false
  pub rows : (p : ℕ) → p < r.count → objectives r ≤ length (r.plans p).row

-- the list of the whole fronts has the plans of the paper's first fronts, each once and no other; that of the split front has those of the front after them
abbrev pub WholeListed : Request → Type 0
WholeListed r = Exactly (in_first (dominance r) r.count (whole_fronts r)) r.count (before r)

abbrev pub SplitListed : Request → Type 0
SplitListed r = Exactly (in_front (dominance r) r.count (whole_fronts r)) r.count (split_front r)
