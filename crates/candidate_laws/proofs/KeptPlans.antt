-- The kept list of any request: it has the size wanted, and lists plans of the pool.
use Prim.Native.Nat.{ℕ, ◌-◌, ◌<◌}
use lib.ListN.{length, get_or}
use Rattle.list_laws.proofs.Members.{get_d_in, below-append}
use Rattle.rng_util.proofs.Draws.{draw_usize-below}
use Rattle.nsga3_laws.proofs.Agree.{Below, draw_all-below, picks-below}
use Rattle.niching_laws.proofs.KeptLength.{by-split}
pub use Rattle.niching_laws.proofs.KeptLength.{kept-length}
use Rattle.demand3_laws.proofs.Cut.{before-exactly, split-exactly}
use Rattle.model.specs.Draw.{draw_usize}
use Rattle.model.specs.Association.{Request, line_count, association, line_of}
use Rattle.model.specs.Kept.{before, split_front, filled, selected_split, selected_whole, selected}

-- ---- its entries

kept_in : (r : Request) → 0 < r.count → Below r.count (selected r).kept
unfolding selected_split selected_whole filled
kept_in r some =
    by-split r (λ s. Below r.count s.kept)
    (below-append r.count (before r) (filled r).value (before-exactly r).below
    (picks-below r.count some (line_of r) (λ p. (association r p).distance) (line_count r) (before r) (split_front r) (split-exactly r).below (r.size - length (before r)) r.state))
    (below-append r.count (before r) _ (before-exactly r).below
    (draw_all-below r.count (λ place listed. draw_usize r.count) (λ i l t. draw_usize-below r.count t some) (r.size - length (before r)) r.state))

pub kept-below : (r : Request) → 0 < r.count → (i : ℕ) → i < length (selected r).kept → get_or (selected r).kept i 0 < r.count
kept-below r some i h = kept_in r some _ (get_d_in (selected r).kept i h)
