-- One open place: what is picked is a waiting member of a line with the least count, and at count 0 one that no other of that line's members is nearer than.
use Prim.Native.Nat.{ℕ, zero, suc, ◌%◌, ◌≤◌, ◌<◌}
use mathlib.Core.Path.{◌≡◌, sym, ap, ◌∙◌}
use mathlib.Core.Bool.{Bool, true, false}
use mathlib.Core.List.Memᴰ
use mathlib.Core.List.{List, map}
use native.Mathlib.Nat.{mod-lt}
use native.Mathlib.Omega.{arith}
use lib.Dec.{eqb, leb, ltb}
use lib.Ieee.{Float, lt}
use lib.ListN.{length}
use borrow.Author.Tests.{eqb-true, eq-eqb, leb-true, le-leb, ltb-false}
use Rattle.model.specs.Lists.{In, best_in, has, keep, all_in}
use Rattle.model.specs.Draw.{draw_word, draw_usize}
use Rattle.model.specs.Kept.{open_lines, least_lines, draw_from, nearest, draw_member, pick_from, nearer_plan}
use Rattle.list_laws.proofs.Best.{best_member, ltb_self, ltb_down}
use Rattle.list_laws.proofs.Members.{in_has, has_in, keep_in, in_keep, get_d_in, place_of, all_in-member}
use Rattle.list_laws.proofs.Kept.{keep_below_in, in_keep_below}
use Rattle.list_laws.proofs.Tests.{all_in-every}
use Rattle.float_laws.proofs.Compared.{lt_self, lt_down}

-- ---- what is drawn of a list that is not empty is in it

draw_from_in : (s : ℕ) {p : ℕ} {ps : List ℕ} → In p ps → In (draw_from ps s).value ps
unfolding draw_from draw_usize
draw_from_in s {p} {ps} m =
    let i = place_of m in get_d_in ps ((draw_word s).value % length ps) (mod-lt (draw_word s).value (omega (arith, i.1)))

-- ---- the nearest of a list

module _ (distance : ℕ → Float) where
  -- the nearest of a list is in it, and no member is nearer
  nearest-member : {p : ℕ} (ps : List ℕ) → In p ps → In (nearest distance ps) ps × ((q : ℕ) → In q ps → lt (distance q) (distance (nearest distance ps)) ≡ false)
  unfolding nearest
  nearest-member ps m = best_member (nearer_plan distance) (λ p. lt_self (distance p)) (λ p q r. lt_down (distance p) (distance q) (distance r)) ps m

  draw_member_in : (s count : ℕ) {p : ℕ} (ps : List ℕ) → In p ps → In (draw_member distance count ps s).value ps
  unfolding draw_member
  draw_member_in s zero ps m = (nearest-member ps m).0
  draw_member_in s (suc count) ps m = draw_from_in s m

  draw_member-nearest : (s count : ℕ) (ps : List ℕ) → count ≡ 0 → (q : ℕ) → In q ps → lt (distance q) (distance (draw_member distance count ps s).value) ≡ false
  unfolding draw_member
  draw_member-nearest s zero ps e q m = (nearest-member ps m).1 q m
  draw_member-nearest s (suc count) ps e q m = absurd (omega arith)

-- ---- the least count of a list

-- no count of a list is below c, as the test of `least_lines` and as a fact
pub all-least : (counts : ℕ → ℕ) (c : ℕ) (ps : List ℕ) → ((k : ℕ) → In k ps → c ≤ counts k) → all_in (λ k. leb c (counts k)) ps ≡ true
all-least counts c ps h = all_in-every (λ k. leb c (counts k)) 0 ps (λ i u. le-leb c _ (h _ (get_d_in ps i u)))

pub least-all : (counts : ℕ → ℕ) (c : ℕ) (ps : List ℕ) → all_in (λ k. leb c (counts k)) ps ≡ true → (k : ℕ) → In k ps → c ≤ counts k
least-all counts c ps e k m = leb-true c (counts k) (all_in-member (λ k. leb c (counts k)) ps e k m)

-- where anything is listed, something has it
least_in_lem : (counts : ℕ → ℕ) {p : ℕ} (ps : List ℕ) → In p ps → (l : ℕ) × In l (least_lines counts ps)
least_in_lem counts ps m =
    let less : ℕ → ℕ → Bool = λ p q. ltb (counts p) (counts q) in
    let t = best_member less (λ p. ltb_self (counts p)) (λ p q r. ltb_down (counts p) (counts q) (counts r)) ps m in
    let l : ℕ = best_in less ps in
    (l, keep_in (λ l. all_in (λ k. leb (counts l) (counts k)) ps) ps l t.0 (all-least counts (counts l) ps (λ k i. ltb-false (counts k) (counts l) (t.1 k i))))

least_lines_le : (counts : ℕ → ℕ) (ps : List ℕ) (l : ℕ) → In l (least_lines counts ps) → (k : ℕ) → In k ps → counts l ≤ counts k
least_lines_le counts ps l m = least-all counts (counts l) ps (in_keep (λ l. all_in (λ k. leb (counts l) (counts k)) ps) ps l m).1

-- ---- the place

-- p is one of those that wait, no other is on a line with a lower count, and at count 0 no other on its line is nearer
pub record Chosen (line : ℕ → ℕ) (distance : ℕ → Float) (counts : ℕ → ℕ) (waits : List ℕ) (p : ℕ) : Type 0 where
  pub listed : In p waits
  pub least : (q : ℕ) → In q waits → counts (line p) ≤ counts (line q)
  pub nearest : counts (line p) ≡ 0 → (q : ℕ) → In q waits → line q ≡ line p → lt (distance q) (distance p) ≡ false

module _ (line : ℕ → ℕ) (distance : ℕ → Float) (lines : ℕ) (counts : ℕ → ℕ) (waits : List ℕ) (inside : (p : ℕ) → In p waits → line p < lines) where
  -- the line of a plan that waits is open
  line_open : (p : ℕ) → In p waits → In (line p) (open_lines line lines waits)
  line_open p m = keep_below_in (has (map line waits)) lines (line p) (inside p m) (in_has (map line waits) (line p) (Memᴰ.map line m))

  -- an open line has a member that waits
  open_member : (l : ℕ) → In l (open_lines line lines waits) → (q : ℕ) × In q (keep (λ p. eqb (line p) l) waits)
  open_member l m =
      let t = Memᴰ.of_map line waits (has_in (map line waits) l (in_keep_below (has (map line waits)) lines l m).1) in
      (t.0, keep_in (λ p. eqb (line p) l) waits t.0 t.1 (eq-eqb (line t.0) l t.2))

  -- a member taken of a line with the least count waits, on that line
  taken_on : (l s : ℕ) → In l (least_lines counts (open_lines line lines waits))
      → In (draw_member distance (counts l) (keep (λ p. eqb (line p) l) waits) s).value waits
      × (line (draw_member distance (counts l) (keep (λ p. eqb (line p) l) waits) s).value ≡ l)
  taken_on l s m =
      let on : ℕ → Bool = λ p. eqb (line p) l in
      let q : ℕ = (draw_member distance (counts l) (keep on waits) s).value in
      let is_open = (in_keep (λ l. all_in (λ k. leb (counts l) (counts k)) (open_lines line lines waits)) (open_lines line lines waits) l m).0 in
      let k = in_keep on waits q (draw_member_in distance s (counts l) (keep on waits) (open_member l is_open).1) in
      (k.0, eqb-true (line q) l k.1)

  -- and is chosen as asked
  chosen_on : (l s : ℕ) → In l (least_lines counts (open_lines line lines waits))
      → Chosen line distance counts waits (draw_member distance (counts l) (keep (λ p. eqb (line p) l) waits) s).value
  chosen_on l s m =
      let on : ℕ → Bool = λ p. eqb (line p) l in
      let q : ℕ = (draw_member distance (counts l) (keep on waits) s).value in
      let same : line q ≡ l = (taken_on l s m).1 in
      record {
        listed = (taken_on l s m).0;
        least = λ r i. rw same (least_lines_le counts (open_lines line lines waits) l m (line r) (line_open r i));
        nearest = λ z r i e. draw_member-nearest distance s (counts l) (keep on waits) (ap counts (sym same) ∙ z) r
            (keep_in on waits r i (eq-eqb (line r) l (e ∙ same)));
      }

  -- where a plan waits, a line is drawn of those with the least count
  least-drawn : (s p : ℕ) → In p waits → In (draw_from (least_lines counts (open_lines line lines waits)) s).value (least_lines counts (open_lines line lines waits))
  least-drawn s p m = draw_from_in s (least_in_lem counts (open_lines line lines waits) (line_open p m)).1

  pub chosen : (s p : ℕ) → In p waits
      → Chosen line distance counts waits (pick_from distance counts (open_lines line lines waits) (λ l. keep (λ p. eqb (line p) l) waits) s).value
  chosen s p m = chosen_on _ _ (least-drawn s p m)

  -- the plan picked is on the line that is drawn
  pub chosen-line : (s p : ℕ) → In p waits
      → line (pick_from distance counts (open_lines line lines waits) (λ l. keep (λ p. eqb (line p) l) waits) s).value
      ≡ (draw_from (least_lines counts (open_lines line lines waits)) s).value
  chosen-line s p m = (taken_on _ _ (least-drawn s p m)).1
