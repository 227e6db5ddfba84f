-- The arrays while the open places are filled: they hold what document 01 says of the plans kept before and those picked so far.
use Prim.Native.Nat.{ℕ, ◌+◌, ◌≤◌, ◌<◌}
use mathlib.Core.Path.{◌≡◌, ap, ap₂, sym, ◌∙◌, fun_ext}
use mathlib.Core.Bool.{Bool, false}
use mathlib.Core.List.{List, [], ◌∷◌, ◌++◌, append-nil, append_assoc}
use native.Mathlib.Omega.{arith}
use lib.Dec.{eqb}
use lib.Ieee.{Float}
use lib.ListN.{length, get_or, set, replicate, length-append, length-set, length-replicate}
use Rattle.model.specs.Lists.{keep_below, has, Distinct}
use Rattle.model.specs.Kept.{niche_count, waiting, open_lines, least_lines, draw_from, pick_one, pick_from, count_at_pick}
use Rattle.model.specs.Refusal.{max_pool, max_lines}
use Rattle.list_laws.proofs.Members.{tally_le, not-has, place_of}
use Rattle.niching_laws.proofs.Picks.{some-waits}
use Rattle.niching_array_laws.specs.Niche.{line_in, distance_in, count_of, members, OnLines, Measured, Numbered, Stands, Ready, pick_at, count_at, Took}
use Rattle.niching_array_laws.proofs.Counting.{counts-more}
use Rattle.niching_array_laws.proofs.Numbering.{stands-first, stands-members, stands_open}

-- what stays: the plans have lines and distances, those of the front are different, and all find room
pub record Given (before front lines : List ℕ) (distances : List Float) (n : ℕ) : Type 0 where
  pub on_lines : OnLines front lines n
  pub measured : Measured front distances
  pub different : Distinct front
  pub narrow : n ≤ max_lines
  pub few : length before + length front ≤ max_pool

-- what the arrays hold once `picked` are picked
pub record Holds (before front lines picked : List ℕ) (counts waits : List ℕ) (taken : List Bool) : Type 0 where
  pub counted : (l : ℕ) → count_of counts l ≡ niche_count (line_in lines) (before ++ picked) l
  pub stands : Stands front lines picked waits taken
  pub sizes : (length counts ≡ max_lines) × (length waits ≡ max_lines) × (length taken ≡ max_pool)

-- ---- at first

pub holds-first : (before front lines counts waits : List ℕ)
    → ((l : ℕ) → count_of counts l ≡ niche_count (line_in lines) before l) → Numbered front lines [] waits
    → length counts ≡ max_lines → length waits ≡ max_lines → Holds before front lines [] counts waits (replicate max_pool false)
holds-first before front lines counts waits a b c d = record {
  counted = λ l. a l ∙ ap (λ t. niche_count (line_in lines) t l) (sym (append-nil before));
  stands = stands-first max_pool b;
  sizes = (c, d, length-replicate max_pool false);
}

-- ---- the next pick

module _ {before front lines picked counts waits : List ℕ} {taken : List Bool} (h : Holds before front lines picked counts waits taken) where
  -- what the arrays give is what document 01 gives
  pub holds_pick : (distances : List Float) (n s : ℕ)
      → pick_at front lines distances n counts waits taken s ≡ pick_one (line_in lines) (distance_in distances) n before front picked s
  unfolding pick_at pick_one
  holds_pick distances n s =
      ap₂ (λ c o. pick_from (distance_in distances) c (keep_below o n) (members front lines taken) s) (fun_ext h.counted) (fun_ext (stands_open h.stands))
      ∙ ap (λ m. pick_from (distance_in distances) (niche_count (line_in lines) (before ++ picked)) (open_lines (line_in lines) n (waiting front picked)) m s) (fun_ext (stands-members h.stands))

  -- and so is the count that a pick finds
  pub holds-found : (n s : ℕ) → count_at n counts waits s ≡ count_at_pick (line_in lines) n before front picked s
  unfolding count_at count_at_pick
  holds-found n s =
      ap₂ (λ c o. c (draw_from (least_lines c (keep_below o n)) s).value) (fun_ext h.counted) (fun_ext (stands_open h.stands))

  -- a niche count is at most the number of plans listed
  holds-few : (l : ℕ) → count_of counts l ≤ length before + length picked
  holds-few l = omega (arith, h.counted l, tally_le (λ p. eqb (line_in lines p) l) (before ++ picked), length-append before picked)

  -- while fewer are picked than the front has, a place waits
  holds-some : Distinct front → length picked < length front → (i : ℕ) × (i < length front) × (get_or taken i false ≡ false)
  holds-some d u =
      let w = some-waits front picked d u in
      let i = place_of w.1.member in (
        i.0,
        i.1,
        h.stands.marked.at i.0 i.1 ∙ ap (has picked) i.2 ∙ not-has picked w.0 w.1.unpicked,
      )

  pub holds_ready : (distances : List Float) (n : ℕ) → Given before front lines distances n → length picked < length front
      → Ready front lines distances n counts waits taken
  holds_ready distances n g u = record {
    listed = record { plans = λ i v. (g.on_lines i v).0; marks = omega (arith, g.few, h.sizes.2) };
    on_lines = g.on_lines;
    measured = g.measured;
    counted = omega (arith, g.narrow, h.sizes.0);
    awaited = omega (arith, g.narrow, h.sizes.1);
    few = λ l. omega (arith, holds-few l, g.few);
    different = g.different;
    picked = picked;
    stands = h.stands;
    some = holds-some g.different u;
  }

  -- ---- and after it

  module _ {distances : List Float} {n s r count t : ℕ} {counts' waits' : List ℕ} {taken' : List Bool} (g : Given before front lines distances n)
      (k : Took front lines distances n s counts counts' waits waits' taken taken' r count t) where
    more-counted : (l : ℕ) → count_of counts' l ≡ niche_count (line_in lines) (before ++ (picked ++ (r ∷ []))) l
    more-counted l =
        ap (λ c. count_of c l) k.counted ∙ ap (λ v. count_of (set counts v (count_of counts v + 1)) l) (sym k.on_line)
        ∙ counts-more (line_in lines) (before ++ picked) r counts (omega (arith, k.on_line, k.line_inside, g.narrow, h.sizes.0)) h.counted l
        ∙ ap (λ p. niche_count (line_in lines) p l) (append_assoc before picked (r ∷ []))

    pub holds_more : Holds before front lines (picked ++ (r ∷ [])) counts' waits' taken'
    holds_more = record {
      counted = more-counted;
      stands = k.stands picked h.stands;
      sizes = (
        ap length k.counted ∙ length-set counts _ _ ∙ h.sizes.0,
        ap length k.lowered ∙ length-set waits _ _ ∙ h.sizes.1,
        ap length k.marked ∙ length-set taken _ _ ∙ h.sizes.2,
      );
    }
