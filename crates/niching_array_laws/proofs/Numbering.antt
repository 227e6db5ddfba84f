-- The array of each line's number: counted over the split front before the first pick, one line's lowered by one with each pick. What it and the marks of the
-- places tell is what document 01 says of the plans that wait.
use Prim.Native.Nat.{ℕ, ◌-◌, ◌<◌}
use mathlib.Core.Path.{◌≡◌, ap, sym, ◌∙◌}
use mathlib.Core.Bool.{Bool, true, false, not, ◌&&◌}
use mathlib.Core.List.{List, [], ◌∷◌, ◌++◌, map}
use native.Mathlib.Omega.{arith}
use lib.Dec.{eqb, ltb}
use lib.ListN.{length, get_or, set, replicate, length-map}
use Rattle.model.specs.Lists.{keep, has, Distinct}
use Rattle.model.specs.Kept.{niche_count, waiting, waiting_number}
use Rattle.list_laws.proofs.Stores.{set_cases}
use Rattle.list_laws.proofs.Members.{keep-length, has_nil, has-not, get_d_in, different-places}
use Rattle.list_laws.proofs.Kept.{keep_below-same, keep-keep}
use Rattle.niching_laws.specs.Niching.{Waiting, Lowered}
use Rattle.niching_laws.proofs.Numbers.{number-first, number-above, has_new, has_old, lowered}
use Rattle.niching_array_laws.specs.Niche.{line_in, member_at, count_of, has_waiting, places, members, Numbered, Marked, Stands, Awaits}
use Rattle.niching_array_laws.proofs.Places.{replicate-at, keep-places}

-- ---- before the first pick

-- the plans of each line, counted when the split front is known
pub numbered-first : (front lines waits : List ℕ) → ((l : ℕ) → count_of waits l ≡ niche_count (line_in lines) front l) → Numbered front lines [] waits
numbered-first front lines waits h = record { at = λ l. h l ∙ sym (number-first (line_in lines) front l) }

-- and no place is marked
pub stands-first : {front lines waits : List ℕ} (n : ℕ) → Numbered front lines [] waits → Stands front lines [] waits (replicate n false)
stands-first {front} n h = record {
  numbered = h;
  marked = record { at = λ i u. replicate-at false n i ∙ sym (has_nil (member_at front i)) };
}

-- ---- before each pick

module _ {front lines picked waits : List ℕ} {taken : List Bool} (h : Stands front lines picked waits taken) where
  -- the members of a line are those of the waiting plans that are on it
  pub stands-members : (l : ℕ) → members front lines taken l ≡ keep (λ p. eqb (line_in lines p) l) (waiting front picked)
  stands-members l =
      sym (keep-keep (λ p. eqb (line_in lines p) l) (λ p. not (has picked p)) front
      ∙ keep-places (λ p. not (has picked p) && eqb (line_in lines p) l) front
      ∙ ap (map (member_at front)) (keep_below-same _ _ (length front) (λ i u. ap (λ b. not b && eqb (line_in lines (member_at front i)) l) (sym (h.marked.at i u)))))

  -- as many as the line's number
  pub stands_awaits : Awaits front lines taken waits
  stands_awaits l =
      h.numbered.at l ∙ sym (keep-length (λ p. eqb (line_in lines p) l) (waiting front picked)) ∙ ap length (sym (stands-members l))
      ∙ length-map (places front lines taken l) (member_at front)

  -- and a number is above 0 just where a member waits
  pub stands_open : (l : ℕ) → has_waiting waits l ≡ has (map (line_in lines) (waiting front picked)) l
  stands_open l = ap (ltb 0) (h.numbered.at l) ∙ number-above (line_in lines) front picked l

  -- ---- a pick

  module _ (d : Distinct front) {place l : ℕ} (inside : place < length front) (waited : get_or taken place false ≡ false)
      (on : line_in lines (member_at front place) ≡ l) where
    -- the plan at a place that is not marked waits
    waits_yet : Waiting front picked (member_at front place)
    waits_yet = record {
      member = get_d_in front place inside;
      unpicked = has-not picked (member_at front place) (sym (h.marked.at place inside) ∙ waited);
    }

    falls : Lowered (line_in lines) front picked (member_at front place)
    falls = lowered (line_in lines) front picked (member_at front place) d waits_yet

    lower : l < length waits → Numbered front lines (picked ++ (member_at front place ∷ [])) (set waits l (count_of waits l - 1))
    lower u = record {
      at = λ k. set_cases (λ c. c ≡ waiting_number (line_in lines) front (picked ++ (member_at front place ∷ [])) k) 0 waits l k (count_of waits l - 1) u
          (λ v. rw (← v, ← on) (omega (arith, h.numbered.at (line_in lines (member_at front place)), falls.own)))
          (λ v. h.numbered.at k ∙ sym (falls.others k (λ e. v (sym on ∙ e))));
    }

    mark : place < length taken → Marked front (picked ++ (member_at front place ∷ [])) (set taken place true)
    mark u = record {
      at = λ i b. set_cases (λ t. t ≡ has (picked ++ (member_at front place ∷ [])) (member_at front i)) false taken place i true u
          (λ v. sym (has_new picked (member_at front place) (member_at front i) (ap (member_at front) v)))
          (λ v. h.marked.at i b ∙ sym (has_old picked (member_at front place) (member_at front i) (λ e. v (different-places front d place i inside b e))));
    }

    -- its line's number lowered and its place marked, they stand as before the next pick
    pub stands-more : l < length waits → place < length taken
        → Stands front lines (picked ++ (member_at front place ∷ [])) (set waits l (count_of waits l - 1)) (set taken place true)
    stands-more u v = record { numbered = lower u; marked = mark v }
