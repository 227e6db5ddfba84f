-- Which plans shape the scale: plans of the pool, just those that pass the test, and some plan where the pool has one.
use Prim.Native.Nat.{ℕ, ◌<◌}
use mathlib.Core.Path.{◌≡◌}
use mathlib.Core.Bool.{true}
use lib.ListN.{length}
use Rattle.model.specs.Lists.{In}
use Rattle.model.specs.Association.{Request, shapes, shapers}
use Rattle.list_laws.proofs.Kept.{keep_below_in, in_keep_below}
use Rattle.list_laws.proofs.Members.{get_d_in}
use Rattle.association_laws.specs.Request.{shaper_at}

pub shaper_in : (r : Request) (p : ℕ) → p < r.count → shapes r p ≡ true → In p (shapers r)
unfolding shapers
shaper_in r = keep_below_in (shapes r) r.count

pub in_shapers : (r : Request) (p : ℕ) → In p (shapers r) → (p < r.count) × (shapes r p ≡ true)
unfolding shapers
in_shapers r = in_keep_below (shapes r) r.count

pub shaper_below : (r : Request) (p : ℕ) → In p (shapers r) → p < r.count
shaper_below r p h = (in_shapers r p h).0

-- the i-th of them is one
pub shaper_at_in : (r : Request) (i : ℕ) → i < length (shapers r) → In (shaper_at r i) (shapers r)
shaper_at_in r = get_d_in (shapers r)
