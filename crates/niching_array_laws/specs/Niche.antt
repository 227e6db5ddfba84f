-- What the arrays of the niching loop hold: each line's niche count, each line's number of waiting members (M-104), and for each place of the split front whether
-- its member is taken. Past a list's end a number reads as 0, a double as NaN.
use Rattle.std.specs.Prelude.{ℕ, ◌+◌, ◌-◌, ◌≤◌, ◌<◌, ◌≡◌, Bool, true, false, cond, not, ◌&&◌, List, [], ◌∷◌, ◌++◌, map, eqb, ltb, Float, length, get_or, set, take, drop}
use Rattle.std.specs.Float.{nan}
use Rattle.std.specs.Float.Ieee.{lt}
use Rattle.model.specs.Lists.{keep_below, count_below, best_from, has, Distinct, over}
use Rattle.model.specs.Draw.{Drawn, drawn}
use Rattle.model.specs.Kept.{waiting_number, least_lines, draw_from, picks, pick_from, pick_rules}
use Rattle.model.specs.Refusal.{max_pool, max_lines}

-- the line of a plan, and its distance from that line
abbrev pub line_in : List ℕ → ℕ → ℕ
line_in lines p = get_or lines p 0

abbrev pub distance_in : List Float → ℕ → Float
distance_in distances p = get_or distances p nan

-- the plan at a place of the split front
abbrev pub member_at : List ℕ → ℕ → ℕ
member_at front i = get_or front i 0

-- ---- lines

-- what an array has for a line: its niche count, or its number of waiting members; and whether that number is above 0
abbrev pub count_of : List ℕ → ℕ → ℕ
count_of counts l = get_or counts l 0

abbrev pub has_waiting : List ℕ → ℕ → Bool
has_waiting waits l = ltb 0 (count_of waits l)

-- line l has the niche count `least` and waiting members
abbrev pub is_least : List ℕ → List ℕ → ℕ → ℕ → Bool
is_least counts waits least l = has_waiting waits l && eqb (get_or counts l 0) least

-- the niche count of line l, if that has waiting members, and `top` otherwise
abbrev pub open_count : ℕ → List ℕ → List ℕ → ℕ → ℕ
open_count top counts waits l = cond (has_waiting waits l) (count_of counts l) top

-- the least niche count of the lines below n with waiting members, none of which reaches `top`
abbrev pub least_below : ℕ → List ℕ → List ℕ → ℕ → ℕ
least_below top counts waits n = best_from ltb top (open_count top counts waits) n

-- ---- places

-- the member at place i waits on line l
abbrev pub waits_on : List ℕ → List ℕ → List Bool → ℕ → ℕ → Bool
waits_on front lines taken l i = not (get_or taken i false) && eqb (line_in lines (member_at front i)) l

-- the places of the front whose members wait on line l, rising
abbrev pub places : List ℕ → List ℕ → List Bool → ℕ → List ℕ
places front lines taken l = keep_below (waits_on front lines taken l) (length front)

-- the plans at these places, in listed order
abbrev pub members : List ℕ → List ℕ → List Bool → ℕ → List ℕ
members front lines taken l = map (member_at front) (places front lines taken l)

-- the distance of the plan at a place
abbrev pub place_distance : List ℕ → List Float → ℕ → Float
place_distance front distances i = distance_in distances (member_at front i)

-- the nearer of two places, if the member at the second waits on line l; the first on a tie
abbrev pub nearer_of : List ℕ → List ℕ → List Float → List Bool → ℕ → ℕ → ℕ → ℕ
nearer_of front lines distances taken l best i =
    cond (waits_on front lines taken l i && lt (place_distance front distances i) (place_distance front distances best)) i best

-- r is one of the numbers below n that pass
pub record Passes (f : ℕ → Bool) (n r : ℕ) : Type 0 where
  pub below : r < n
  pub passes : f r ≡ true

-- and the k-th of them, counted from 0
pub record Kth (f : ℕ → Bool) (n k r : ℕ) : Type 0 where
  pub one : Passes f n r
  pub rank : count_below f r ≡ k

-- ---- what is asked and promised

-- every listed plan has a line, which is below n
abbrev pub OnLines : List ℕ → List ℕ → ℕ → Type 0
OnLines plans lines n = (i : ℕ) → i < length plans → (member_at plans i < length lines) × (line_in lines (member_at plans i) < n)

-- a list of zeros
abbrev pub Zeros : List ℕ → Type 0
Zeros counts = (l : ℕ) → get_or counts l 0 ≡ 0

-- line l is below n and has waiting members
abbrev pub Open : List ℕ → ℕ → ℕ → Type 0
Open waits n l = Passes (has_waiting waits) n l

-- every listed plan has a line, and every place a mark
pub record Listed (front lines : List ℕ) (taken : List Bool) : Type 0 where
  pub plans : (i : ℕ) → i < length front → member_at front i < length lines
  pub marks : length front ≤ length taken

-- the place i is one of those whose members wait on line l
abbrev pub MemberOf : List ℕ → List ℕ → List Bool → ℕ → ℕ → Type 0
MemberOf front lines taken l i = Passes (waits_on front lines taken l) (length front) i

-- every listed plan has a distance
abbrev pub Measured : List ℕ → List Float → Type 0
Measured plans distances = (i : ℕ) → i < length plans → member_at plans i < length distances

-- "Before each pick a line's number is that of the split front's plans associated with it and not yet listed": the array has these numbers, where `picked` are
-- the plans of the split front that are listed
pub record Numbered (front lines picked waits : List ℕ) : Type 0 where
  pub at : (l : ℕ) → count_of waits l ≡ waiting_number (line_in lines) front picked l

-- and the marks of the places tell these plans
pub record Marked (front picked : List ℕ) (taken : List Bool) : Type 0 where
  pub at : (i : ℕ) → i < length front → get_or taken i false ≡ has picked (member_at front i)

-- both, as they stand before a pick
pub record Stands (front lines picked waits : List ℕ) (taken : List Bool) : Type 0 where
  pub numbered : Numbered front lines picked waits
  pub marked : Marked front picked taken

-- each line's number, by the places that wait
abbrev pub Awaits : List ℕ → List ℕ → List Bool → List ℕ → Type 0
Awaits front lines taken waits = (l : ℕ) → count_of waits l ≡ length (places front lines taken l)

-- the arrays agree, and a member waits
pub record Ready (front lines : List ℕ) (distances : List Float) (n : ℕ) (counts waits : List ℕ) (taken : List Bool) : Type 0 where
  pub listed : Listed front lines taken
  pub on_lines : OnLines front lines n
  pub measured : Measured front distances
  pub counted : n ≤ length counts
  pub awaited : n ≤ length waits
  pub few : (l : ℕ) → count_of counts l < max_pool
  pub different : Distinct front
  -- those picked so far, of which numbers and marks speak
  pub picked : List ℕ
  pub stands : Stands front lines picked waits taken
  pub some : (i : ℕ) × (i < length front) × (get_or taken i false ≡ false)

-- one open place, by what the arrays hold
unfoldable pub pick_at : List ℕ → List ℕ → List Float → ℕ → List ℕ → List ℕ → List Bool → ℕ → Drawn ℕ
pick_at front lines distances n counts waits taken s =
    pick_from (distance_in distances) (count_of counts) (keep_below (has_waiting waits) n) (members front lines taken) s

-- and the niche count of the line that it draws, before it is raised
unfoldable pub count_at : ℕ → List ℕ → List ℕ → ℕ → ℕ
count_at n counts waits s = count_of counts (draw_from (least_lines (count_of counts) (keep_below (has_waiting waits) n)) s).value

-- that place filled: the plan r of a place that waited is taken, its line's niche count, which was `count`, is one higher and its number of waiting members, which
-- was above 0, one lower; no other line's is touched. Whichever were picked before, the numbers are those before the next pick, with r among the picked.
pub record Took (front lines : List ℕ) (distances : List Float) (n s : ℕ) (counts₀ counts waits₀ waits : List ℕ) (taken₀ taken : List Bool) (r count t : ℕ) : Type 0 where
  pub place : ℕ
  pub line : ℕ
  pub inside : place < length front
  pub waited : get_or taken₀ place false ≡ false
  pub plan : r ≡ member_at front place
  pub on_line : line_in lines r ≡ line
  pub line_inside : line < n
  pub counted : counts ≡ set counts₀ line (count_of counts₀ line + 1)
  pub above : 0 < count_of waits₀ line
  pub lowered : waits ≡ set waits₀ line (count_of waits₀ line - 1)
  pub marked : taken ≡ set taken₀ place true
  pub stands : (picked : List ℕ) → Stands front lines picked waits₀ taken₀ → Stands front lines (picked ++ (r ∷ [])) waits taken
  pub chosen : drawn r t ≡ pick_at front lines distances n counts₀ waits₀ taken₀ s
  pub found : count ≡ count_at n counts₀ waits₀ s

-- the first `start` plans of the order are kept, those from there to `end` are the split front, of which `vacant` are to be picked
pub record Splits (order : List ℕ) (start end : ℕ) (lines : List ℕ) (distances : List Float) (n vacant : ℕ) (picked rules : List ℕ) : Type 0 where
  pub ahead : start ≤ end
  pub inside : end ≤ length order
  pub few : end ≤ max_pool
  pub narrow : n ≤ max_lines
  pub plans : (i : ℕ) → i < end → (member_at order i < length lines) × (member_at order i < length distances) × (line_in lines (member_at order i) < n)
  pub different : Distinct (take (end - start) (drop start order))
  pub enough : vacant ≤ end - start
  pub room : vacant ≤ length picked
  pub room_for_rules : vacant ≤ length rules

-- what document 01 picks of that order
abbrev pub picks_of : List ℕ → ℕ → ℕ → List ℕ → List Float → ℕ → ℕ → ℕ → Drawn (List ℕ)
picks_of order start end lines distances n vacant s =
    picks (line_in lines) (distance_in distances) n (take start order) (take (end - start) (drop start order)) vacant s

-- and the marks of these picks (document 02, M-108)
abbrev pub marks_of : List ℕ → ℕ → ℕ → List ℕ → List Float → ℕ → ℕ → ℕ → List ℕ
marks_of order start end lines distances n vacant s =
    pick_rules (line_in lines) (distance_in distances) n (take start order) (take (end - start) (drop start order)) vacant s

-- THE PROMISE of niching_select: those plans and their marks stand at the front of the lent slices, and the generator is where the picks leave it
pub record NichingSelects (order : List ℕ) (start end : ℕ) (lines : List ℕ) (distances : List Float) (n vacant s : ℕ) (picked₀ picked rules₀ rules : List ℕ) (t : ℕ)
    : Type 0 where
  pub written : picked ≡ over (picks_of order start end lines distances n vacant s).value picked₀
  pub ruled : rules ≡ over (marks_of order start end lines distances n vacant s) rules₀
  pub state : t ≡ (picks_of order start end lines distances n vacant s).state
