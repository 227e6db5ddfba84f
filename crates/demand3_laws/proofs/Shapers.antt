-- THEOREM: a front is feasible throughout or infeasible throughout. So the fronts before a feasible split front are feasible, and every plan that may be listed
-- where a front is split shapes the scale (document 02, M-112).
use Prim.Native.Nat.{ℕ, ◌<◌}
use mathlib.Core.Path.{◌≡◌, sym, ◌∙◌}
use mathlib.Core.Logic.{◌⊎◌, inr, ⊎_elim}
use mathlib.Core.Bool.{true, false, true≢false}
use native.Mathlib.Omega.{arith}
use lib.ListN.{length, get_or}
use Rattle.model.specs.declared.Edition.TheVariants.{First}
use Rattle.model.specs.Edition.{passes_over}
use Rattle.model.specs.Lists.{In, all_in}
use Rattle.model.specs.Front.{front}
use Rattle.model.specs.Association.{Request, dominance, feasible_plan, feasible_only, shapes, shapers}
use Rattle.model.specs.Kept.{whole_fronts, before, is_split, split_front}
use Rattle.list_laws.proofs.Bools.{by_bool, and_left, and_right}
use Rattle.list_laws.proofs.Members.{get_d_in, place_of, all_in-member}
use Rattle.front_laws.proofs.Rounds.{in_first-more}
use Rattle.front_laws.proofs.Theorems.{none_backwards}
use Rattle.association_laws.proofs.Shapers.{shaper_in}
use Rattle.demand3_laws.proofs.Cut.{before-exactly, split-exactly}
use Rattle.demand3_laws.proofs.Fronts.{feasible-beats}
use Rattle.demand3_laws.proofs.Sizes.{split-short, split-room}
use Rattle.demand3_laws.proofs.Demand3.{split-apart, better-before}

module _ (r : Request) where
  -- a feasible plan dominates an infeasible one, so no front has both
  not-both : (k p q : ℕ) → In p (front (dominance r) r.count k) → In q (front (dominance r) r.count k) → feasible_plan r p ≡ true → feasible_plan r q ≡ false → ⊥
  not-both k p q mp mq f g = true≢false (sym (feasible-beats r p q f g) ∙ none_backwards (dominance r) r.count k k q p (omega arith) mq mp)

  -- THEOREM
  pub one-kind : (k p q : ℕ) → In p (front (dominance r) r.count k) → In q (front (dominance r) r.count k) → feasible_plan r p ≡ feasible_plan r q
  one-kind k p q mp mq = by_bool (feasible_plan r p)
      (λ e. by_bool (feasible_plan r q) (λ h. e ∙ sym h) (λ h. absurd (not-both k p q mp mq e h)))
      (λ e. by_bool (feasible_plan r q) (λ h. absurd (not-both k q p mq mp h e)) (λ h. e ∙ sym h))

  -- ---- a split front

  module _ (split : is_split r ≡ true) where
    -- it has a member
    member : (p : ℕ) × In p (split_front r)
    member = (get_or (split_front r) 0 0, get_d_in (split_front r) 0 (omega (arith, split-short r split, split-room r split)))

    -- THEOREM: the fronts before a feasible one are feasible
    pub before-feasible : ((p : ℕ) → In p (split_front r) → feasible_plan r p ≡ true) → (p : ℕ) → In p (before r) → feasible_plan r p ≡ true
    before-feasible each p m =
        let q = member in
        by_bool (feasible_plan r p) (λ e. e)
        (λ e. absurd (split-apart r q.0 ((split-exactly r).passes q.0 q.1)
        (better-before r p q.0 (in_first-more (dominance r) r.count (whole_fronts r) p ((before-exactly r).passes p m)) ((split-exactly r).below q.0 q.1)
        (feasible-beats r q.0 p (each q.0 q.1) e))))

  -- ---- where feasible plans alone shape the scale

  pub only_split : feasible_only r ≡ true → is_split r ≡ true
  unfolding feasible_only
  only_split e = and_left (is_split r) (all_in (feasible_plan r) (split_front r)) (and_right (passes_over r.edition) _ e)

  pub only_feasible_lem : feasible_only r ≡ true → (p : ℕ) → In p (split_front r) → feasible_plan r p ≡ true
  unfolding feasible_only
  only_feasible_lem e = all_in-member (feasible_plan r) (split_front r) (and_right (is_split r) (all_in (feasible_plan r) (split_front r)) (and_right (passes_over r.edition) _ e))

  -- elsewhere all do, and so in edition 1
  pub all-shape : feasible_only r ≡ false → (p : ℕ) → shapes r p ≡ true
  unfolding shapes
  all-shape e p = rw e

  pub first-shape : r.edition ≡ First → (p : ℕ) → shapes r p ≡ true
  unfolding shapes feasible_only
  first-shape e p = rw e

  -- THEOREM: whoever may be listed does
  pub listed-shape : (p : ℕ) → In p (before r) ⊎ In p (split_front r) → shapes r p ≡ true
  unfolding shapes
  listed-shape p m = by_bool (feasible_only r)
      (λ e. rw e (⊎_elim (before-feasible (only_split e) (only_feasible_lem e) p) (only_feasible_lem e p) m))
      (λ e. rw e)

  -- and some plan does, of a pool that has one
  in_some : (p : ℕ) → In p (shapers r) → 0 < length (shapers r)
  in_some p m = omega (arith, (place_of m).1)

  pub some-shape : 0 < r.count → 0 < length (shapers r)
  some-shape some = by_bool (feasible_only r)
      (λ e. let q = member (only_split e) in in_some q.0 (shaper_in r q.0 ((split-exactly r).below q.0 q.1) (listed-shape q.0 (inr q.1))))
      (λ e. in_some 0 (shaper_in r 0 some (all-shape e 0)))
