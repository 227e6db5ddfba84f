-- The loop over the open places: the first j are filled as `picks` fills them.
use Prim.Native.Nat.{ℕ, ◌+◌, ◌-◌, ◌<◌}
use mathlib.Core.Path.{◌≡◌, refl, ap, sym, ◌∙◌}
use mathlib.Core.Bool.{Bool, false}
use mathlib.Core.List.{List, []}
use native.Mathlib.Omega.{arith}
use lib.Ieee.{Float}
use lib.ListN.{length, set, take, drop, replicate, length-drop, length-set}
use lib.Seq.{get_or-take, get_or-drop, length-take-le}
use Rattle.model.specs.Lists.{list_below, over}
use Rattle.model.specs.Refusal.{max_pool, max_lines}
use Rattle.model.specs.Draw.{Drawn, drawn, in_turn}
use Rattle.model.specs.Kept.{niche_count, pick_one, picks, mark_of, rule_of, count_at_pick, pick_rules}
use Rattle.list_laws.proofs.Built.{over_none, over-set}
use Rattle.list_laws.proofs.Draws.{draw_all-length}
use Rattle.list_laws.proofs.Written.{WrittenNumbers, written_none, written_next, written-more}
use Rattle.niching_array_laws.specs.Niche.{line_in, distance_in, member_at, count_of, Zeros, OnLines, Numbered, Ready, Took, Splits, picks_of, marks_of, NichingSelects}
use Rattle.niching_array_laws.proofs.Places.{replicate-at}
use Rattle.niching_array_laws.proofs.Filling.{Given, Holds, holds-first, holds_pick, holds-found, holds_ready, holds_more}

-- how the loop picks
abbrev pick_in : List ℕ → List Float → ℕ → List ℕ → List ℕ → ℕ → List ℕ → ℕ → Drawn ℕ
pick_in lines distances n before front place picked = pick_one (line_in lines) (distance_in distances) n before front picked

-- the mark of pick i, by what it finds (M-108)
abbrev mark_in : List ℕ → List Float → ℕ → List ℕ → List ℕ → ℕ → ℕ → ℕ
mark_in lines distances n before front s i =
    let so_far = picks (line_in lines) (distance_in distances) n before front i s in
    mark_of (rule_of (count_at_pick (line_in lines) n before front so_far.value so_far.state))

-- the state of the loop
pub record Selecting (before front lines : List ℕ) (distances : List Float) (n s : ℕ) (old oldRules : List ℕ) (j : ℕ) (counts waits : List ℕ) (taken : List Bool)
    (out rules : List ℕ) (t : ℕ) : Type 0 where
  pub holds : Holds before front lines (picks (line_in lines) (distance_in distances) n before front j s).value counts waits taken
  pub picked : WrittenNumbers (pick_in lines distances n before front) s old j out t
  pub marked : rules ≡ over (list_below (mark_in lines distances n before front s) j) oldRules
  pub same : length rules ≡ length oldRules

pub selecting_first : (before front lines : List ℕ) (distances : List Float) (n s : ℕ) (old oldRules counts waits : List ℕ)
    → ((l : ℕ) → count_of counts l ≡ niche_count (line_in lines) before l) → Numbered front lines [] waits
    → length counts ≡ max_lines → length waits ≡ max_lines
    → Selecting before front lines distances n s old oldRules 0 counts waits (replicate max_pool false) old oldRules s
unfolding in_turn
selecting_first before front lines distances n s old oldRules counts waits a b c d = record {
  holds = holds-first before front lines counts waits a b c d;
  picked = written_none (pick_in lines distances n before front) s old;
  marked = sym (over_none (mark_in lines distances n before front s) oldRules);
  same = refl;
}

module _ {before front lines : List ℕ} {distances : List Float} {n s : ℕ} {old oldRules : List ℕ} {j : ℕ} {counts waits : List ℕ} {taken : List Bool}
    {out rules : List ℕ} {t : ℕ} (h : Selecting before front lines distances n s old oldRules j counts waits taken out rules t)
    (g : Given before front lines distances n) where
  pub selecting_ready : j < length front → Ready front lines distances n counts waits taken
  selecting_ready u = holds_ready h.holds distances n g (omega (arith, draw_all-length (pick_in lines distances n before front) j s))

  pub selecting_more : {counts' waits' : List ℕ} {taken' : List Bool} {r count mark u : ℕ} → j < length old → j < length oldRules
      → Took front lines distances n t counts counts' waits waits' taken taken' r count u → mark ≡ mark_of (rule_of count)
      → Selecting before front lines distances n s old oldRules (j + 1) counts' waits' taken' (set out j r) (set rules j mark) u
  selecting_more {counts'} {waits'} {taken'} {r} {count} {mark} {u} v w k e = record {
    holds = rw (← written_next (pick_in lines distances n before front) s old j out t h.picked r u chosen) (holds_more h.holds g k);
    picked = written-more (pick_in lines distances n before front) s old j out t h.picked v r u chosen;
    marked = over-set (mark_in lines distances n before front s) rules oldRules j mark w h.marked (e ∙ ap (λ c. mark_of (rule_of c)) found);
    same = length-set rules j mark ∙ h.same;
  }
    where
      chosen : drawn r u ≡ pick_one (line_in lines) (distance_in distances) n before front (picks (line_in lines) (distance_in distances) n before front j s).value t
      chosen = k.chosen ∙ holds_pick h.holds distances n t

      found : count ≡ count_at_pick (line_in lines) n before front (picks (line_in lines) (distance_in distances) n before front j s).value
          (picks (line_in lines) (distance_in distances) n before front j s).state
      found = k.found ∙ holds-found h.holds n t ∙ ap (count_at_pick (line_in lines) n before front (picks (line_in lines) (distance_in distances) n before front j s).value) h.picked.state

-- ---- what the caller knows of the order

module _ {order : List ℕ} {start end : ℕ} {lines : List ℕ} {distances : List Float} {n places : ℕ} {picked rules : List ℕ}
    (h : Splits order start end lines distances n places picked rules) where
  front_length : length (take (end - start) (drop start order)) ≡ end - start
  front_length = length-take-le (end - start) (drop start order) (omega (arith, length-drop start order, h.inside))

  -- place i of the front is place start + i of the order
  front_at : (i : ℕ) → i < end - start → member_at (take (end - start) (drop start order)) i ≡ member_at order (start + i)
  front_at i u = get_or-take (end - start) (drop start order) i 0 u ∙ get_or-drop start order i 0

  before_at : (i : ℕ) → i < start → member_at (take start order) i ≡ member_at order i
  before_at i u = get_or-take start order i 0 u

  pub before-length : length (take start order) ≡ start
  before-length = length-take-le start order (omega (arith, h.ahead, h.inside))

  -- both have lines, for which an entry a line suffices
  pub before-lines : OnLines (take start order) lines max_lines
  before-lines i u =
      let v : i < start = omega (arith, before-length) in
      let q = h.plans i (omega (arith, h.ahead)) in
      rw (before_at i v) (q.0, omega (arith, q.2, h.narrow))

  front-lines : OnLines (take (end - start) (drop start order)) lines n
  front-lines i u =
      let v : i < end - start = omega (arith, front_length) in
      let q = h.plans (start + i) (omega arith) in
      rw (front_at i v) (q.0, q.2)

  pub front-counts : OnLines (take (end - start) (drop start order)) lines max_lines
  front-counts i u = let q = front-lines i u in (q.0, omega (arith, q.1, h.narrow))

  pub given : Given (take start order) (take (end - start) (drop start order)) lines distances n
  given = record {
    on_lines = front-lines;
    measured = λ i u. let v : i < end - start = omega (arith, front_length) in
        rw (front_at i v) (h.plans (start + i) (omega arith)).1;
    different = h.different;
    narrow = h.narrow;
    few = omega (arith, front_length, before-length, h.ahead, h.few);
  }

  -- there are as many members as open places
  pub enough-members : (j : ℕ) → j < places → j < length (take (end - start) (drop start order))
  enough-members j u = omega (arith, front_length, h.enough)

-- with all places filled the promise is kept
pub selecting_done : {order : List ℕ} {start end : ℕ} {lines : List ℕ} {distances : List Float} {n s : ℕ} {old oldRules : List ℕ} {j : ℕ} {counts waits : List ℕ}
    {taken : List Bool} {out rules : List ℕ} {t : ℕ} (places : ℕ) → j ≡ places
    → Selecting (take start order) (take (end - start) (drop start order)) lines distances n s old oldRules j counts waits taken out rules t
    → NichingSelects order start end lines distances n places s old out oldRules rules t
unfolding pick_rules
selecting_done {order} {start} {end} {lines} {distances} {n} {s} {old} {oldRules} places e h = record {
  written = h.picked.written ∙ ap (λ m. over (picks_of order start end lines distances n m s).value old) e;
  ruled = h.marked ∙ ap (λ m. over (marks_of order start end lines distances n m s) oldRules) e;
  state = h.picked.state ∙ ap (λ m. (picks_of order start end lines distances n m s).state) e;
}

-- an array of zeros
pub no_counts : Zeros (replicate max_lines 0)
no_counts l = replicate-at {A = ℕ} 0 max_lines l
