-- The kept list of any request has the size wanted, and so has the list of rules beside it; the fronts handed out are the pool's.
use Prim.Native.Nat.{◌≤◌}
use mathlib.Core.Path.{◌≡◌, refl}
use native.Mathlib.Omega.{arith}
use lib.ListN.{length, length-append, length-replicate}
use Rattle.model.specs.Front.{front_list, front}
use Rattle.model.specs.Association.{Request, dominance}
use Rattle.model.specs.Kept.{Selected, whole_fronts, before, is_split, filled, filled_rules, selected_split, selected_whole, selected, exceeds_size, pick_rules}
use Rattle.list_laws.proofs.Built.{list_below-length}
use Rattle.list_laws.proofs.Rows.{join_below-fits}
use Rattle.list_laws.proofs.Bools.{by_bool}
use Rattle.list_laws.proofs.Draws.{draw_all-length}
use Rattle.list_laws.proofs.First.{first_below-before}

pub before_le : (r : Request) → length (before r) ≤ r.size
unfolding before whole_fronts
before_le r = join_below-fits (front (dominance r) r.count) r.size (whole_fronts r) (first_below-before (exceeds_size r) r.count)

-- what holds whether or not a front is split holds of what is selected
pub by-split : (r : Request) (P : Selected → Type 0) → P (selected_split r) → P (selected_whole r) → P (selected r)
unfolding selected
by-split r P a b = by_bool (is_split r) (λ e. rw e a) (λ e. rw e b)

-- and the fronts handed out are the pool's, either way
pub fronts-all : (r : Request) → (selected r).fronts ≡ front_list (dominance r) r.count
unfolding selected_split selected_whole
fronts-all r = by-split r (λ s. s.fronts ≡ front_list (dominance r) r.count) refl refl

pub kept-length : (r : Request) → length (selected r).kept ≡ r.size
unfolding selected_split selected_whole filled
kept-length r =
    let b = before_le r in
    by-split r (λ s. length s.kept ≡ r.size)
    (rw (length-append, draw_all-length) (omega arith))
    (rw (length-append, draw_all-length) (omega arith))

pub rules-length : (r : Request) → length (selected r).rules ≡ r.size
unfolding selected_split selected_whole filled_rules pick_rules
rules-length r =
    let b = before_le r in
    by-split r (λ s. length s.rules ≡ r.size)
    (rw (length-append, length-replicate, list_below-length) (omega arith))
    (rw (length-append, length-replicate, length-replicate) (omega arith))
