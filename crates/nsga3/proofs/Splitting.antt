-- A selection that splits a front, step by step: what each call asks, and that what they leave is the model's selection.
use Prim.Native.Nat.{ℕ, ◌+◌, ◌-◌, ◌≤◌, ◌<◌}
use mathlib.Core.Path.{◌≡◌, refl, ap, ap₂, sym, subst, ◌∙◌}
use mathlib.Core.Logic.{◌⊎◌, inl, inr}
use mathlib.Core.Bool.{Bool, true, false, cond, ◌&&◌}
use mathlib.Core.List.{List, ◌++◌}
use native.Mathlib.Omega.{arith}
use borrow.Rule.Slice.PartMut.{mid_of, put_mid}
use lib.Ieee.{Float, nan, lt}
use lib.ListN.{length, get_or, take, drop, replicate, length-drop, length-replicate}
use lib.Seq.{get_or-take, get_or-drop, length-take-le}
use Rattle.model.specs.declared.Rule.TheVariants as rule
use Rattle.model.specs.Edition.{passes_over}
use Rattle.model.specs.Lists.{In, Distinct, all_below, all_in, list_below, over}
use Rattle.model.specs.Front.{listing}
use Rattle.model.specs.Association.{Request, objectives, line_count, dominance, feasible_plan, feasible_only, shapes, ideal_of, association, line_of}
use Rattle.model.specs.Kept.{before, is_split, split_front, filled, filled_rules, without_line, line_mark, selected_split, picks, pick_rules, mark_of}
use Rattle.list_laws.proofs.Below.{by_lt}
use Rattle.list_laws.proofs.Built.{list_below-length, over-all, over_below}
use Rattle.list_laws.proofs.Tests.{all_below-same, all_in-below}
use Rattle.list_laws.proofs.Members.{get_d_in}
use Rattle.front_laws.proofs.Order.{listing-below}
use Rattle.niching_laws.proofs.Association.{line_of-inside}
use Rattle.shapers.specs.Marked.{only_feasible, shapes_by}
use Rattle.shaper_rows.specs.Gathered.{earlier}
use Rattle.shaped_association.specs.Lined.{Shaped, Lined}
use Rattle.shaped_association.proofs.Shaped.{places_are}
use Rattle.front_cut.specs.declared.Cut.{Cut}
use Rattle.niching_array_laws.specs.Niche.{Splits, NichingSelects, picks_of, marks_of}
use Rattle.demand3_laws.proofs.Cut.{before-exactly, split-exactly}
use Rattle.demand3_laws.proofs.Sizes.{split-room}
use Rattle.demand3_laws.proofs.Demand3.{setting}
use Rattle.demand3_laws.proofs.Shapers.{listed-shape, some-shape}
use Rattle.nsga3_laws.proofs.Agree.{picks_agree, rules_agree}
use Rattle.list_laws.proofs.Built.{written_behind}
use Rattle.nsga3.specs.Handed.{SortedPool, Hands}

module _ {r : Request} {keptRoom rulesRoom linesRoom : ℕ} {rows : List Float} {order : List ℕ} {c : Cut} (S : SortedPool r keptRoom rulesRoom linesRoom rows order c) where
  -- ---- the order

  -- its plans are the pool's
  pub order_below : (i : ℕ) → i < r.count → get_or order i 0 < r.count
  order_below i h =
      subst (λ x. x < r.count) (ap (λ l. get_or l i 0) (sym S.listed.listed) ∙ get_or-take r.count order i 0 h)
      (listing-below (dominance r) r.count r.count _ (get_d_in (listing (dominance r) r.count r.count) i
      (omega (arith, ap length S.listed.listed, length-take-le r.count order S.listed.places))))

  end_inside : c.end ≤ length order
  end_inside = omega (arith, S.listed.cut.within, S.listed.places)

  -- the part of it that is the split front
  abbrev waiting-part : List ℕ
  waiting-part = take (c.end - c.whole) (drop c.whole order)

  part_length : length waiting-part ≡ c.end - c.whole
  part_length =
      length-take-le (c.end - c.whole) (drop c.whole order) (omega (arith, length-drop c.whole order, end_inside, S.listed.cut.ahead))

  part-at : (k : ℕ) → k < c.end - c.whole → get_or waiting-part k 0 ≡ get_or order (c.whole + k) 0
  part-at k h = get_or-take (c.end - c.whole) (drop c.whole order) k 0 h ∙ get_or-drop c.whole order k 0

  -- ---- where the cut splits a front

  module _ (cuts : c.split ≡ true) where
    split : is_split r ≡ true
    split = sym S.listed.cut.split ∙ cuts

    -- a plan listed before the split front's end is of a whole front or of the split one
    listed_at : (i : ℕ) → i < c.end → In (get_or order i 0) (before r) ⊎ In (get_or order i 0) (split_front r)
    listed_at i h = by_lt i c.whole
        (λ u. inl (subst (In (get_or order i 0)) S.listed.cut.listed
        (subst (λ x. In x (take c.whole order)) (get_or-take c.whole order i 0 u)
        (get_d_in (take c.whole order) i (omega (arith, length-take-le c.whole order (omega (arith, end_inside, S.listed.cut.ahead))))))))
        (λ u. let k = i - c.whole in
        let e : c.whole + k ≡ i = omega arith in
        inr (subst (In (get_or order i 0)) (S.listed.cut.waiting split)
        (subst (λ x. In x waiting-part) (part-at k (omega arith) ∙ ap (λ t. get_or order t 0) e) (get_d_in waiting-part k (omega (arith, part_length))))))

    -- ---- who shapes the scale

    only_is : only_feasible r.edition (feasible_plan r) order c.whole c.end ≡ feasible_only r
    unfolding feasible_only
    only_is =
        ap (λ b. passes_over r.edition && b)
        (all_below-same (λ k. feasible_plan r (get_or order (c.whole + k) 0)) (λ k. feasible_plan r (get_or waiting-part k 0)) (c.end - c.whole) (λ k h. ap (feasible_plan r) (sym (part-at k h)))
        ∙ ap (all_below (λ k. feasible_plan r (get_or waiting-part k 0))) (sym part_length)
        ∙ sym (all_in-below (feasible_plan r) 0 waiting-part)
        ∙ ap (all_in (feasible_plan r)) (S.listed.cut.waiting split)
        ∙ ap (λ b. b && all_in (feasible_plan r) (split_front r)) (sym split))

    -- the marks of the plans that do, and the rows
    pub shaped : (n : ℕ) → n ≡ r.count → (marks₀ marks : List Bool)
        → marks ≡ over (list_below (shapes_by (only_feasible r.edition (feasible_plan r) order c.whole c.end) (feasible_plan r)) n) marks₀
        → Shaped r marks rows n (objectives r)
    unfolding shapes
    shaped n e marks₀ marks f = record {
      count = e;
      width = refl;
      values = λ p j h k. S.laid.values p j (omega (arith, e)) k;
      who = λ p h. over_below (shapes_by (only_feasible r.edition (feasible_plan r) order c.whole c.end) (feasible_plan r)) n marks marks₀ p false f h
          ∙ ap (λ b. cond b (feasible_plan r p) true) only_is;
    }

    -- some plan does
    pub some-marked : (marks : List Bool) (n : ℕ) → Shaped r marks rows n (objectives r) → 0 < earlier marks n
    some-marked marks n s =
        subst (λ l. 0 < length l) (sym (places_are r marks rows n (objectives r) s)) (some-shape r S.limits.some_plans)

    -- ---- niching

    module _ (n k : ℕ) (e : n ≡ r.count) (g : k ≡ line_count r) (ideal₀ ideal : List Float) (lines₀ lines : List ℕ) (distances : List Float)
        (A : Lined r n (objectives r) ideal₀ ideal lines₀ lines distances) where
      line-of : (p : ℕ) → p < r.count → shapes r p ≡ true → get_or lines p 0 ≡ line_of r p
      line-of p h s = over_below (line_mark r) n lines lines₀ p 0 A.line (omega (arith, e)) ∙ ap (λ b. cond b (line_of r p) without_line) s

      distance-of : (p : ℕ) → p < r.count → shapes r p ≡ true → get_or distances p nan ≡ (association r p).distance
      distance-of p h s = A.distance p (omega (arith, e)) s

      -- those that may be listed shape the scale
      ahead : (p : ℕ) → In p (before r) → line_of r p ≡ get_or lines p 0
      ahead p m = sym (line-of p ((before-exactly r).below p m) (listed-shape r p (inl m)))

      agree : (p : ℕ) → In p (split_front r) → line_of r p ≡ get_or lines p 0
      agree p m = sym (line-of p ((split-exactly r).below p m) (listed-shape r p (inr m)))

      far_of : (p : ℕ) → In p (split_front r) → (association r p).distance ≡ get_or distances p nan
      far_of p m = sym (distance-of p ((split-exactly r).below p m) (listed-shape r p (inr m)))

      close : (p q : ℕ) → In p (split_front r) → In q (split_front r) → line_of r p ≡ line_of r q
          → lt (association r p).distance (association r q).distance ≡ lt (get_or distances p nan) (get_or distances q nan)
      close p q m t same = ap₂ lt (far_of p m) (far_of q t)

      pub splits : (picked rules : List ℕ) → r.count ≤ length lines → r.count ≤ length distances → r.size - c.whole ≤ length picked
          → r.size - c.whole ≤ length rules → Splits order c.whole c.end lines distances k (r.size - c.whole) picked rules
      splits picked rules wide far free marks = record {
        ahead = S.listed.cut.ahead;
        inside = omega (arith, S.listed.cut.within, S.listed.places);
        few = omega (arith, S.listed.cut.within, S.limits.few_plans);
        narrow = omega (arith, g, S.limits.few_lines);
        plans = λ i h.
            let b = order_below i (omega (arith, h, S.listed.cut.within)) in
            (omega arith, omega arith, omega (arith, g, line-of (get_or order i 0) b (listed-shape r (get_or order i 0) (listed_at i h)), line_of-inside r (get_or order i 0) S.limits.some_lines));
        different = subst Distinct (sym (S.listed.cut.waiting split)) (split-exactly r).distinct;
        enough = omega (arith, S.listed.cut.exceeds split);
        room = free;
        room_for_rules = marks;
      }

      -- the picks of the lists are the request's
      picks_are : picks_of order c.whole c.end lines distances k (r.size - c.whole) r.state ≡ filled r
      unfolding filled
      picks_are =
          ap₂ (λ s t. picks (λ p. get_or lines p 0) (λ p. get_or distances p nan) k s t (r.size - c.whole) r.state) S.listed.cut.listed (S.listed.cut.waiting split)
          ∙ ap₂ (λ l w. picks (λ p. get_or lines p 0) (λ p. get_or distances p nan) l (before r) (split_front r) (r.size - w) r.state) g S.listed.cut.whole
          ∙ sym (picks_agree (setting r S.limits.some_lines split) (λ p. get_or lines p 0) (λ p. (association r p).distance) (λ p. get_or distances p nan) ahead agree close
          (r.size - length (before r)) r.state (split-room r split))

      -- and so are their marks
      marks_are : marks_of order c.whole c.end lines distances k (r.size - c.whole) r.state ≡ filled_rules r
      unfolding filled_rules
      marks_are =
          ap₂ (λ s t. pick_rules (λ p. get_or lines p 0) (λ p. get_or distances p nan) k s t (r.size - c.whole) r.state) S.listed.cut.listed (S.listed.cut.waiting split)
          ∙ ap₂ (λ l w. pick_rules (λ p. get_or lines p 0) (λ p. get_or distances p nan) l (before r) (split_front r) (r.size - w) r.state) g S.listed.cut.whole
          ∙ sym (rules_agree (setting r S.limits.some_lines split) (λ p. get_or lines p 0) (λ p. (association r p).distance) (λ p. get_or distances p nan) ahead agree close
          (r.size - length (before r)) r.state (split-room r split))

      -- THE LAW: what the calls leave is handed out
      pub hands : length ideal₀ ≡ objectives r → (kept₀ copied part rules₀ marked marks : List ℕ) (t : ℕ)
          → c.whole ≤ length copied → copied ≡ over (take c.whole order) kept₀
          → c.whole ≤ length marked → marked ≡ over (replicate c.whole (mark_of rule.WholeFront)) rules₀
          → NichingSelects order c.whole c.end lines distances k (r.size - c.whole) r.state (mid_of c.whole (length copied - c.whole) copied) part
          (mid_of c.whole (length marked - c.whole) marked) marks t
          → Hands (selected_split r) ideal kept₀ (put_mid c.whole (length copied - c.whole) copied part)
          rules₀ (put_mid c.whole (length marked - c.whole) marked marks) lines₀ lines t
      unfolding selected_split
      hands i kept₀ copied part rules₀ marked marks t room₀ first room₁ whole N = record {
        ideal = A.moved ∙ over-all (list_below (ideal_of r) (objectives r)) ideal₀ (omega (arith, i, list_below-length (ideal_of r) (objectives r)));
        kept = written_behind (take c.whole order) _ copied kept₀ part c.whole
            (length-take-le c.whole order (omega (arith, S.listed.cut.ahead, S.listed.cut.within, S.listed.places))) room₀ first N.written
            ∙ ap₂ (λ s d. over (s ++ d.value) kept₀) S.listed.cut.listed picks_are;
        rules = written_behind (replicate c.whole (mark_of rule.WholeFront)) _ marked rules₀ marks c.whole (length-replicate c.whole (mark_of rule.WholeFront)) room₁ whole N.ruled
            ∙ ap₂ (λ w d. over (replicate w (mark_of rule.WholeFront) ++ d) rules₀) S.listed.cut.whole marks_are;
        lines = A.line ∙ ap (λ m. over (list_below (line_mark r) m) lines₀) e;
        state = N.state ∙ ap (λ d. d.state) picks_are;
      }
