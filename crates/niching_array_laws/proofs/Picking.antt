-- One open place: a line and a member that the arrays give.
use Prim.Native.Nat.{ℕ, ◌<◌}
use mathlib.Core.Path.{◌≡◌, refl, ap, ap₂, ◌∙◌}
use mathlib.Core.Bool.{Bool, true, false, not, ◌&&◌}
use mathlib.Core.List.{List}
use native.Mathlib.Omega.{arith}
use borrow.Author.Tests.{eq-eqb, eqb-true, lt-ltb, ltb-true}
use lib.Dec.{eqb}
use lib.Ieee.{Float}
use lib.ListN.{length, get_or}
use Rattle.model.specs.Lists.{keep_below}
use Rattle.model.specs.Draw.{Drawn, drawn}
use Rattle.model.specs.Kept.{least_lines, draw_from, draw_member}
use Rattle.list_laws.proofs.Bools.{and_right, and_not_left}
use Rattle.list_laws.proofs.Counts.{count_below-at}
use Rattle.list_laws.proofs.Kept.{keep_below-length}
use Rattle.niching_array_laws.specs.Niche.{line_in, distance_in, member_at, count_of, has_waiting, waits_on, members, Open, MemberOf, Awaits, Ready, pick_at, count_at}
use Rattle.niching_array_laws.proofs.Numbering.{stands_awaits}

module _ {front lines : List ℕ} {distances : List Float} {n : ℕ} {counts waits : List ℕ} {taken : List Bool}
    (h : Ready front lines distances n counts waits taken) where
  -- a line's number is that of its places that wait
  pub ready_awaits : Awaits front lines taken waits
  ready_awaits = stands_awaits h.stands

  -- the line of a member that waits is open
  pub ready_open : (l : ℕ) × Open waits n l
  ready_open =
      let i = h.some.0 in
      let l = line_in lines (member_at front i) in
      let f = waits_on front lines taken l in
      let e : f i ≡ true = ap₂ (λ a b. not a && b) h.some.2 (eq-eqb l l refl) in
      let w : 0 < count_of waits l = omega (arith, ready_awaits l, keep_below-length f (length front), count_below-at f (length front) i h.some.1 e) in
      (l, record { below = (h.on_lines i h.some.1).1; passes = lt-ltb 0 (count_of waits l) w })

-- some member waits on an open line
pub open_some : (waits : List ℕ) (n l : ℕ) → Open waits n l → 0 < count_of waits l
open_some waits n l o = ltb-true 0 (count_of waits l) o.passes

-- a member that waits is not taken, and is on the line
module _ (front lines : List ℕ) (taken : List Bool) (l i : ℕ) (h : MemberOf front lines taken l i) where
  pub member-waited : get_or taken i false ≡ false
  member-waited = and_not_left (get_or taken i false) (eqb (line_in lines (member_at front i)) l) h.passes

  pub member-line : line_in lines (member_at front i) ≡ l
  member-line = eqb-true (line_in lines (member_at front i)) l (and_right (not (get_or taken i false)) (eqb (line_in lines (member_at front i)) l) h.passes)

-- a drawn line and a member chosen of it are the pick
pub picked-at : (front lines : List ℕ) (distances : List Float) (n : ℕ) (counts waits : List ℕ) (taken : List Bool) (s l u r t : ℕ)
    → drawn l u ≡ draw_from (least_lines (count_of counts) (keep_below (has_waiting waits) n)) s
    → drawn r t ≡ draw_member (distance_in distances) (count_of counts l) (members front lines taken l) u
    → drawn r t ≡ pick_at front lines distances n counts waits taken s
unfolding pick_at
picked-at front lines distances n counts waits taken s l u r t e m =
    m ∙ ap (λ (d : Drawn ℕ). draw_member (distance_in distances) (count_of counts d.value) (members front lines taken d.value) d.state) e

-- and the count of that line is the one that the pick found
pub found_at : (n : ℕ) (counts waits : List ℕ) (s l u : ℕ) → drawn l u ≡ draw_from (least_lines (count_of counts) (keep_below (has_waiting waits) n)) s
    → count_of counts l ≡ count_at n counts waits s
unfolding count_at
found_at n counts waits s l u e = ap (λ (d : Drawn ℕ). count_of counts d.value) e
