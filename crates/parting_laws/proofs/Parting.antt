-- THEOREM: the two editions of a request whose scale is the same in both hand out the same selection, unless two squares that it compares share one root.
use Prim.Native.Nat.{ℕ, ◌-◌, ◌≤◌, ◌<◌}
use mathlib.Core.Path.{◌≡◌, refl, ap, ap₂, sym, subst, ◌∙◌, fun_ext}
use mathlib.Core.Bool.{Bool, true, false, cond, ◌&&◌}
use mathlib.Core.List.{List, ◌++◌}
use mathlib.Core.Logic.{◌⊎◌, inl, inr}
use native.Mathlib.Omega.{arith}
use borrow.Author.Tests.{eqb-true, eq-eqb}
use lib.Dec.{eqb}
use lib.Ieee.{Float, nan, lt}
use lib.ListN.{length, get_or}
use Rattle.model.specs.declared.Edition.TheVariants.{First, Second}
use Rattle.model.specs.Lists.{In, any_below, list_below}
use Rattle.model.specs.Real.{◌⊖◌, ◌⊘◌}
use Rattle.model.specs.Numbers.{sqrt_of}
use Rattle.model.specs.Draw.{Drawn}
use Rattle.model.specs.Front.{front_list}
use Rattle.model.specs.Association.{Request, in_edition, objectives, line_count, value_of, dominance, shapes, shapers, least_from, ideal_of, normalised, coordinate, distance, distance_to, Near, nearest_of, association, line_of}
use Rattle.model.specs.Kept.{before, is_split, split_front, picks, pick_rules, filled, filled_rules, without_line, line_mark, selected_split, selected_whole, by_split, selected, whole_fronts, whole_rules, Selected}
use Rattle.list_laws.proofs.Bools.{by_bool, and_left, and_right, and_fails}
use Rattle.list_laws.proofs.Below.{by_lt}
use Rattle.list_laws.proofs.Built.{list_below-same}
use Rattle.list_laws.proofs.Kept.{keep_below-same}
use Rattle.list_laws.proofs.Tests.{any_below-some, any_below-each}
use Rattle.association_laws.specs.Search.{Square}
use Rattle.association_laws.proofs.Same.{distance-same, nearest-same}
use Rattle.association_laws.proofs.Squares.{squares_square}
use Rattle.niching_laws.specs.Niching.{Split}
use Rattle.demand3_laws.proofs.Cut.{before-exactly, split-exactly}
use Rattle.demand3_laws.proofs.Sizes.{split-room}
use Rattle.demand3_laws.proofs.Demand3.{setting}
use Rattle.demand3_laws.proofs.Shapers.{first-shape}
use Rattle.nsga3_laws.proofs.Agree.{picks_agree, rules_agree}
use Rattle.parting_laws.specs.Parting.{SameScale, shared_root, square_to, first_line, BetweenLines, OnOneLine}
use Rattle.parting_laws.proofs.Shared.{Both, both, same-order}

module _ (r : Request) (scale : SameScale r) where
  abbrev one : Request
  one = in_edition First r

  abbrev two : Request
  two = in_edition Second r

  -- ---- the distances of the two editions

  squares : (p l : ℕ) → Square (square_to r p l)
  squares p l = squares_square (objectives r) (normalised one p) (coordinate r l)

  -- the nearest of plan p's lines by squares
  abbrev found : ℕ → Near
  found p = nearest_of (square_to r p) (line_count r)

  -- the scale of edition 2 is that of edition 1
  shapers-same : shapers two ≡ shapers one
  unfolding shapers
  shapers-same = keep_below-same (shapes two) (shapes one) r.count (λ p h. scale.shape p h ∙ sym (first-shape one refl p))

  ideal-same : (j : ℕ) → ideal_of two j ≡ ideal_of one j
  unfolding ideal_of
  ideal-same j = ap (least_from (get_or r.ideal j nan) (λ p. value_of r p j)) shapers-same

  scaled_same : (p j : ℕ) → j < objectives r → normalised two p j ≡ normalised one p j
  unfolding normalised
  scaled_same p j h = ap₂ (λ z i. (value_of r p j ⊖ z) ⊘ i) (ideal-same j) (sym (scale.intercepts j h))

  by-roots : (p : ℕ) → association one p ≡ nearest_of (λ l. sqrt_of (square_to r p l)) (line_count r)
  unfolding association
  by-roots p = nearest-same _ _ (line_count r)
      (λ l h. unfold distance_to distance coordinate in refl)

  by_squares_lem : (p : ℕ) → association two p ≡ found p
  unfolding association
  by_squares_lem p = nearest-same _ _ (line_count r)
      (λ l h. unfold distance_to distance coordinate in
      distance-same Second (objectives r) (normalised two p) (normalised one p) (coordinate r l) (coordinate r l) (scaled_same p) (λ j k. refl))

  -- ---- what looks at no distance

  first-split : is_split one ≡ is_split r
  unfolding is_split before whole_fronts
  first-split = refl

  second-split : is_split two ≡ is_split r
  unfolding is_split before whole_fronts
  second-split = refl

  whole_same : selected_whole one ≡ selected_whole two
  unfolding selected_whole before whole_fronts
  whole_same = refl

  -- ---- where no plan stands so between two lines

  module _ (between : (p k l : ℕ) → p < r.count → k < line_count r → l < line_count r → shared_root (square_to r p k) (square_to r p l) ≡ false) where
    search : (p : ℕ) → p < r.count → Both (square_to r p) (squares p) (line_count r) (found p).line (found p).distance
    search p h = both (square_to r p) (squares p) (line_count r) (λ k l i j. between p k l h i j)

    found-line : (p : ℕ) → p < r.count → line_of one p ≡ (found p).line
    found-line p h = ap (λ (v : Near). v.line) (by-roots p) ∙ sym (search p h).found.nearest

    lines_same : (p : ℕ) → p < r.count → line_of one p ≡ line_of two p
    lines_same p h = found-line p h ∙ ap (λ (v : Near). v.line) (sym (by_squares_lem p))

    found_root : (p : ℕ) → p < r.count → (association one p).distance ≡ sqrt_of (found p).distance
    found_root p h = ap (λ (v : Near). v.distance) (by-roots p) ∙ sym (search p h).found.measured

    -- ---- and no two plans on one line

    module _ (members : (p q : ℕ) → p < r.count → q < r.count → first_line r p ≡ first_line r q
        → shared_root (square_to r p (first_line r p)) (square_to r q (first_line r p)) ≡ false) where
      own_squares : (p q : ℕ) → p < r.count → q < r.count → line_of one p ≡ line_of one q
          → shared_root (square_to r p (found p).line) (square_to r q (found q).line) ≡ false
      own_squares p q h k same =
          ap₂ (λ a b. shared_root (square_to r p a) (square_to r q b)) (sym (found-line p h)) (sym (found-line q k) ∙ sym same) ∙ members p q h k same

      order_same : (p q : ℕ) → p < r.count → q < r.count → line_of one p ≡ line_of one q
          → lt (association one p).distance (association one q).distance ≡ lt (association two p).distance (association two q).distance
      order_same p q h k same =
          let a = search p h in
          let b = search q k in
          ap₂ lt (found_root p h) (found_root q k)
          ∙ same-order (square_to r p) (square_to r q) (squares p) (squares q) (line_count r) (found p).line (found q).line (found p).distance (found q).distance
          a.found.held b.found.held a.origin b.origin (λ i j. own_squares p q h k same)
          ∙ ap₂ lt (ap (λ (v : Near). v.distance) (sym (by_squares_lem p))) (ap (λ (v : Near). v.distance) (sym (by_squares_lem q)))

      -- where there is no line, there is nothing to compare
      none_near : line_count r ≤ 0 → association one ≡ association two
      unfolding association
      none_near h = fun_ext (λ p. nearest-same _ _ (line_count r) (λ l u. absurd (omega arith)))

      module _ (split : is_split r ≡ true) where
        abbrev open_places_lem : ℕ
        open_places_lem = r.size - length (before r)

        -- those that may be listed are the pool's
        ahead : (p : ℕ) → In p (before r) → line_of one p ≡ line_of two p
        ahead p m = lines_same p ((before-exactly r).below p m)

        agree : (p : ℕ) → In p (split_front r) → line_of one p ≡ line_of two p
        agree p m = lines_same p ((split-exactly r).below p m)

        close : (p q : ℕ) → In p (split_front r) → In q (split_front r) → line_of one p ≡ line_of one q
            → lt (association one p).distance (association one q).distance ≡ lt (association two p).distance (association two q).distance
        close p q m k = order_same p q ((split-exactly r).below p m) ((split-exactly r).below q k)

        parts : 0 < line_count r → Split (before r) (split_front r) (line_of one) (line_count r)
        unfolding before whole_fronts split_front
        parts some = setting one some (first-split ∙ split)

        abbrev picks_by : (ℕ → Near) → Drawn (List ℕ)
        picks_by a = picks (λ p. (a p).line) (λ p. (a p).distance) (line_count r) (before r) (split_front r) open_places_lem r.state

        abbrev rules-by : (ℕ → Near) → List ℕ
        rules-by a = pick_rules (λ p. (a p).line) (λ p. (a p).distance) (line_count r) (before r) (split_front r) open_places_lem r.state

        filled-same : filled one ≡ filled two
        unfolding filled before whole_fronts split_front
        filled-same = by_lt 0 (line_count r)
            (λ some. picks_agree (parts some) (line_of two) (λ p. (association one p).distance) (λ p. (association two p).distance) ahead agree close open_places_lem r.state (split-room r split))
            (λ none. ap picks_by (none_near none))

        rules-same : filled_rules one ≡ filled_rules two
        unfolding filled_rules before whole_fronts split_front
        rules-same = by_lt 0 (line_count r)
            (λ some. rules_agree (parts some) (line_of two) (λ p. (association one p).distance) (λ p. (association two p).distance) ahead agree close open_places_lem r.state (split-room r split))
            (λ none. ap rules-by (none_near none))

        mark-same : (p : ℕ) → p < r.count → line_mark one p ≡ line_mark two p
        mark-same p h = ap₂ (λ b l. cond b l without_line) (first-shape one refl p ∙ sym (scale.shape p h)) (lines_same p h)

        split-same : selected_split one ≡ selected_split two
        unfolding selected_split before whole_fronts
        split-same =
            ap₂ (λ f m. handed f m (list_below (line_mark one) r.count) (list_below (ideal_of one) (objectives r))) filled-same rules-same
            ∙ ap₂ (λ l i. handed (filled two) (filled_rules two) l i) (list_below-same (line_mark one) (line_mark two) r.count mark-same)
            (list_below-same (ideal_of one) (ideal_of two) (objectives r) (λ j h. sym (ideal-same j)))
          where
            handed : Drawn (List ℕ) → List ℕ → List ℕ → List Float → Selected
            handed f m l i = record {
              kept = before r ++ f.value;
              rules = whole_rules r ++ m;
              fronts = front_list (dominance r) r.count;
              lines = l;
              ideal = i;
              state = f.state;
            }

      pub selected-same : selected one ≡ selected two
      unfolding selected
      selected-same = by_bool (is_split r)
          (λ e. ap (λ b. by_split b one) (first-split ∙ e) ∙ split-same e ∙ ap (λ b. by_split b two) (sym (second-split ∙ e)))
          (λ e. ap (λ b. by_split b one) (first-split ∙ e) ∙ whole_same ∙ ap (λ b. by_split b two) (sym (second-split ∙ e)))

  -- ---- THE THEOREM

  -- some two of plan p's lines share a root, and some two of line k's
  abbrev line_ties : ℕ → ℕ → ℕ → Bool
  line_ties p k l = shared_root (square_to r p k) (square_to r p l)

  abbrev member_ties : ℕ → ℕ → Bool
  member_ties p q = eqb (first_line r p) (first_line r q) && shared_root (square_to r p (first_line r p)) (square_to r q (first_line r p))

  abbrev some_lines : ℕ → ℕ → Bool
  some_lines p k = any_below (line_ties p k) (line_count r)

  abbrev some_plan : ℕ → Bool
  some_plan p = any_below (some_lines p) (line_count r)

  abbrev some_member : ℕ → Bool
  some_member p = any_below (member_ties p) r.count

  tie_between : any_below some_plan r.count ≡ true → BetweenLines r
  tie_between e =
      let p = any_below-some some_plan r.count e in
      let k = any_below-some (some_lines p.0) (line_count r) p.2 in
      let l = any_below-some (line_ties p.0 k.0) (line_count r) k.2 in
      record { plan = p.0; line = k.0; other = l.0; in_pool = p.1; in_table = k.1; other_in_table = l.1; shared = l.2 }

  tie_members : any_below some_member r.count ≡ true → OnOneLine r
  tie_members e =
      let p = any_below-some some_member r.count e in
      let q = any_below-some (member_ties p.0) r.count p.2 in
      record {
        plan = p.0;
        other = q.0;
        in_pool = p.1;
        other_in_pool = q.1;
        same_line = eqb-true _ _ (and_left _ _ q.2);
        shared = and_right (eqb (first_line r p.0) (first_line r q.0)) _ q.2;
      }

  -- the editions hand out the same, or a plan stands so between two lines, or two plans on one line
  pub editions_part : (selected (in_edition First r) ≡ selected (in_edition Second r)) ⊎ (BetweenLines r ⊎ OnOneLine r)
  editions_part = by_bool (any_below some_plan r.count)
      (λ e. inr (inl (tie_between e)))
      (λ none. by_bool (any_below some_member r.count)
      (λ e. inr (inr (tie_members e)))
      (λ no. inl (selected-same
      (λ p k l h i j. any_below-each (line_ties p k) (line_count r) (any_below-each (some_lines p) (line_count r) (any_below-each some_plan r.count none p h) k i) l j)
      (λ p q h k same. and_fails (eqb (first_line r p) (first_line r q)) _ (any_below-each (member_ties p) r.count (any_below-each some_member r.count no p h) q k) (eq-eqb _ _ same)))))
