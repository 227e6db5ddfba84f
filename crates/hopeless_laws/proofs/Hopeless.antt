-- THEOREM (document 02, M-112): two accepted requests of edition 2 that differ only in the rows of infeasible plans, with a feasible split front, select the same:
-- kept list, rules, fronts, lines, ideal and the generator's state.
use Prim.Native.Nat.{ℕ, suc, ◌-◌, ◌≤◌, ◌<◌}
use mathlib.Core.Path.{◌≡◌, refl, ap, ap₂, sym, subst, ◌∙◌, fun_ext}
use mathlib.Core.Bool.{Bool, true, false, cond, ◌&&◌}
use mathlib.Core.List.{List, [], ◌∷◌, ◌++◌}
use native.Mathlib.Omega.{arith}
use lib.Dec.{ltb}
use lib.Ieee.{Float, nan, inf, lt}
use lib.ListN.{length, get_or, replicate}
use Rattle.model.specs.declared.Edition.{Edition}
use Rattle.model.specs.declared.ParamValue.{ParamValue}
use Rattle.model.specs.declared.Rule.TheVariants as rule
use Rattle.model.specs.Edition.{ranks_by_rows, uses_plane, passes_over, moves_to_step}
use Rattle.model.specs.Lists.{In, list_below, all_in}
use Rattle.model.specs.Real.{bits, infinity, ◌⊖◌, ◌⊘◌, above}
use Rattle.model.specs.Draw.{Drawn, drawn}
use Rattle.model.specs.Plan.{Plan}
use Rattle.model.specs.Row.{minimised, row_of, dominates, feasible, violation, by_feasibility, constrained_dominates, row_beats, beats}
use Rattle.model.specs.Front.{front, listing, front_of, front_list}
use Rattle.model.specs.Hyperplane.{intercepts_of}
use Rattle.model.specs.Association.{Request, objectives, line_count, value_of, dominance, feasible_plan, feasible_only, shapes, shapers, least_from, greatest, ideal_of, intercept_from, old_intercept_of, shaper_value, plane_intercept_of, intercept_of, normalised, coordinate, distance_to, association, line_of}
use Rattle.model.specs.Kept.{exceeds_size, whole_fronts, before, is_split, split_front, picks, pick_rules, filled, filled_rules, without_line, line_mark, mark_of, Selected, selected_split, by_split, selected}
use Rattle.model.specs.Setting.{extract, sort_by_param, parent_in, parents_of, rank_of, offspring_of, bred_of, moved_by, born_of, Operators, Generation, generation_of, generation}
use Rattle.model.specs.Window.{own_part, own_words}
use Rattle.list_laws.proofs.Bools.{by_bool, and_both}
use Rattle.list_laws.proofs.Best.{among_same}
use Rattle.list_laws.proofs.Built.{list_below-same}
use Rattle.list_laws.proofs.First.{first_below-same}
use Rattle.list_laws.proofs.Kept.{keep_below-same}
use Rattle.list_laws.proofs.Draws.{in_turn-same}
use Rattle.list_laws.proofs.Members.{get_d_in, below-append}
use Rattle.list_laws.proofs.Tests.{all_in-every}
use Rattle.front_laws.proofs.Same as fronts
use Rattle.hyperplane_laws.proofs.Same.{intercepts-same}
use Rattle.association_laws.proofs.Shapers.{in_shapers}
use Rattle.association_laws.proofs.Same.{distance-same, nearest-same}
use Rattle.demand3_laws.specs.Facts.{Accepted}
use Rattle.demand3_laws.proofs.Accepted.{accepted-lines}
use Rattle.demand3_laws.proofs.Cut.{before-exactly, split-exactly}
use Rattle.demand3_laws.proofs.Sizes.{split-short, split-room, split-many, split-kept}
use Rattle.demand3_laws.proofs.Calls.{generation-many}
use Rattle.demand3_laws.proofs.Demand3.{setting}
use Rattle.demand3_laws.proofs.Shapers.{before-feasible, some-shape}
use Rattle.nsga3_laws.proofs.Agree.{Below, picks-below, picks_agree, rules_agree}
use Rattle.hopeless_laws.specs.Hopeless.{HopelessRows}

-- where one of two plans is infeasible, rows are not looked at
by_kind : (a b v v' d d' : Bool) → v ≡ v' → (a ≡ true → b ≡ true → d ≡ d') → by_feasibility a b v d ≡ by_feasibility a b v' d'
by_kind true true v v' d d' e h = h refl refl
by_kind true false v v' d d' e h = refl
by_kind false true v v' d d' e h = refl
by_kind false false v v' d d' e h = e

-- a feasible split front in an edition that passes over: feasible plans alone shape the scale
only_of : (t : Request) → passes_over t.edition ≡ true → is_split t ≡ true → ((p : ℕ) → In p (split_front t) → feasible_plan t p ≡ true) → feasible_only t ≡ true
unfolding feasible_only
only_of t e s each = and_both _ _ e (and_both _ _ s (all_in-every (feasible_plan t) 0 (split_front t) (λ k h. each _ (get_d_in (split_front t) k h))))

-- what a selection hands out, from its parts
abbrev handed : List ℕ → Drawn (List ℕ) → List ℕ → List ℕ → List ℕ → List Float → Selected
handed b f m k l i = record {
  kept = b ++ f.value;
  rules = replicate (length b) (mark_of rule.WholeFront) ++ m;
  fronts = k;
  lines = l;
  ideal = i;
  state = f.state;
}

-- ---- one request, and other plans in it

abbrev with_plans : Request → (ℕ → Plan) → Request
with_plans r plans = record {
  edition = r.edition;
  marks = r.marks;
  divisions = r.divisions;
  size = r.size;
  count = r.count;
  plans = plans;
  ideal = r.ideal;
  state = r.state;
}

module _ (r : Request) (plans : ℕ → Plan) (passes : passes_over r.edition ≡ true)
    (constraints : (p : ℕ) → p < r.count → (plans p).constraints ≡ (r.plans p).constraints)
    (rows : (p : ℕ) → p < r.count → feasible_plan r p ≡ true → (plans p).row ≡ (r.plans p).row)
    (split : is_split r ≡ true) (each : (p : ℕ) → In p (split_front r) → feasible_plan r p ≡ true) (some : 0 < line_count r) where
  abbrev s : Request
  s = with_plans r plans

  abbrev Good : ℕ → Type 0
  Good p = feasible_plan r p ≡ true

  feasible-same : (p : ℕ) → p < r.count → feasible_plan s p ≡ feasible_plan r p
  feasible-same p h = ap feasible (constraints p h)

  value_same : (p j : ℕ) → p < r.count → Good p → value_of s p j ≡ value_of r p j
  unfolding row_of
  value_same p j h f = ap (λ l. minimised r.marks l j) (rows p h f)

  -- ---- the fronts

  rows_beat : (p q : ℕ) → p < r.count → q < r.count → Good p → Good q
      → dominates (objectives r) (row_of r.marks (plans p)) (row_of r.marks (plans q)) ≡ dominates (objectives r) (row_of r.marks (r.plans p)) (row_of r.marks (r.plans q))
  unfolding row_of
  rows_beat p q h k f g = ap₂ (λ x y. dominates (objectives r) (minimised r.marks x) (minimised r.marks y)) (rows p h f) (rows q k g)

  dominance-same : (p q : ℕ) → p < r.count → q < r.count → dominance s p q ≡ dominance r p q
  unfolding beats constrained_dominates
  dominance-same p q h k =
      ap₂ (λ x y. by_feasibility (feasible x) (feasible y) (lt (violation x) (violation y)) (dominates (objectives r) (row_of r.marks (plans p)) (row_of r.marks (plans q))))
      (constraints p h) (constraints q k)
      ∙ by_kind (feasible_plan r p) (feasible_plan r q) _ _ _ _ refl (rows_beat p q h k)

  whole_same : whole_fronts s ≡ whole_fronts r
  unfolding whole_fronts
  whole_same = first_below-same (exceeds_size s) (exceeds_size r) r.count
      (λ k u. ap (λ l. ltb r.size (length l)) (fronts.listing-same (dominance s) (dominance r) r.count dominance-same (suc k)))

  before_same : before s ≡ before r
  unfolding before
  before_same =
      fronts.listing-same (dominance s) (dominance r) r.count dominance-same (whole_fronts s)
      ∙ ap (listing (dominance r) r.count) whole_same

  pub front_same : split_front s ≡ split_front r
  unfolding split_front
  front_same =
      fronts.front_same (dominance s) (dominance r) r.count dominance-same (whole_fronts s)
      ∙ ap (front (dominance r) r.count) whole_same

  split-same : is_split s ≡ true
  unfolding is_split
  split-same = ap₂ (λ w b. ltb w r.count && ltb (length b) r.size) whole_same before_same ∙ split

  -- ---- who shapes the scale

  only_r : feasible_only r ≡ true
  only_r = only_of r passes split each

  only_s : feasible_only s ≡ true
  only_s = only_of s passes split-same
      (λ p m. let k = subst (In p) front_same m in feasible-same p ((split-exactly r).below p k) ∙ each p k)

  shapes-r : (p : ℕ) → shapes r p ≡ feasible_plan r p
  unfolding shapes
  shapes-r p = ap (λ b. cond b (feasible_plan r p) true) only_r

  shapes-same : (p : ℕ) → p < r.count → shapes s p ≡ shapes r p
  unfolding shapes
  shapes-same p h = ap₂ (λ b f. cond b f true) (only_s ∙ sym only_r) (feasible-same p h)

  shapers-same : shapers s ≡ shapers r
  unfolding shapers
  shapers-same = keep_below-same (shapes s) (shapes r) r.count shapes-same

  shaper_good : (p : ℕ) → In p (shapers r) → (p < r.count) × Good p
  shaper_good p m = let k = in_shapers r p m in (k.0, sym (shapes-r p) ∙ k.1)

  shaper_value_lem : (j p : ℕ) → In p (shapers r) → value_of s p j ≡ value_of r p j
  shaper_value_lem j p m = let k = shaper_good p m in value_same p j k.0 k.1

  -- ---- the scale

  ideal-same : (j : ℕ) → ideal_of s j ≡ ideal_of r j
  unfolding ideal_of
  ideal-same j =
      ap (least_from (get_or r.ideal j nan) (λ p. value_of s p j)) shapers-same
      ∙ among_same lt (get_or r.ideal j nan) (λ p. value_of s p j) (λ p. value_of r p j) (shapers r) (shaper_value_lem j)

  -- this generation's own part, which a window remembers (M-109)
  own_same : (j : ℕ) → own_part s j ≡ own_part r j
  unfolding own_part
  own_same j =
      ap (least_from infinity (λ p. value_of s p j)) shapers-same
      ∙ among_same lt infinity (λ p. value_of s p j) (λ p. value_of r p j) (shapers r) (shaper_value_lem j)

  words_same : own_words r ≡ own_words s
  unfolding own_words
  words_same = list_below-same _ _ (objectives r) (λ j h. ap bits (sym (own_same j)))

  ideals_same : list_below (ideal_of r) (objectives r) ≡ list_below (ideal_of s) (objectives s)
  ideals_same = list_below-same (ideal_of r) (ideal_of s) (objectives r) (λ j h. sym (ideal-same j))

  old_same : (j : ℕ) → old_intercept_of s j ≡ old_intercept_of r j
  unfolding old_intercept_of
  old_same j = ap₂ (λ g i. intercept_from (g ⊖ i))
      (ap (greatest (λ p. value_of s p j)) shapers-same
      ∙ among_same above (inf true) (λ p. value_of s p j) (λ p. value_of r p j) (shapers r) (shaper_value_lem j))
      (ideal-same j)

  plane_same : (j : ℕ) → plane_intercept_of s j ≡ plane_intercept_of r j
  unfolding plane_intercept_of
  plane_same j =
      ap (λ l. intercepts_of (length l) (objectives r) (λ i t. value_of s (get_or l i 0) t) (ideal_of s) (old_intercept_of s) j) shapers-same
      ∙ intercepts-same (length (shapers r)) (objectives r) (λ i t. value_of s (get_or (shapers r) i 0) t) (shaper_value r) (ideal_of s) (ideal_of r)
      (λ i t u v. shaper_value_lem t _ (get_d_in (shapers r) i u)) (λ t u. ideal-same t) (some-shape r (omega (arith, split-many r split)))
      (old_intercept_of s) (old_intercept_of r) j (old_same j)

  intercept-same : (j : ℕ) → intercept_of s j ≡ intercept_of r j
  unfolding intercept_of
  intercept-same j = ap₂ (λ a b. cond (uses_plane r.edition) a b) (plane_same j) (old_same j)

  normalised-same : (p j : ℕ) → p < r.count → Good p → normalised s p j ≡ normalised r p j
  unfolding normalised
  normalised-same p j h f = ap₂ (λ v i. v ⊘ i) (ap₂ (λ v i. v ⊖ i) (value_same p j h f) (ideal-same j)) (intercept-same j)

  -- ---- the lines

  to_same : (p l : ℕ) → p < r.count → Good p → distance_to s p l ≡ distance_to r p l
  unfolding distance_to coordinate
  to_same p l h f =
      distance-same r.edition (objectives r) (normalised s p) (normalised r p) (coordinate r l) (coordinate r l) (λ j u. normalised-same p j h f) (λ j u. refl)

  near_same : (p : ℕ) → p < r.count → Good p → association s p ≡ association r p
  unfolding association
  near_same p h f = nearest-same (distance_to s p) (distance_to r p) (line_count r) (λ l u. to_same p l h f)

  line_same : (p : ℕ) → p < r.count → Good p → line_of s p ≡ line_of r p
  line_same p h f = ap (λ a. a.line) (near_same p h f)

  far_same : (p : ℕ) → p < r.count → Good p → (association s p).distance ≡ (association r p).distance
  far_same p h f = ap (λ a. a.distance) (near_same p h f)

  mark-same : (p : ℕ) → p < r.count → line_mark s p ≡ line_mark r p
  mark-same p h = by_bool (feasible_plan r p)
      (λ f. ap₂ (λ b l. cond b l without_line) (shapes-same p h) (line_same p h f))
      (λ f. ap (λ b. cond b (line_of s p) without_line) (shapes-same p h ∙ shapes-r p ∙ f) ∙ sym (ap (λ b. cond b (line_of r p) without_line) (shapes-r p ∙ f)))

  -- ---- the picks

  ahead-good : (p : ℕ) → In p (before r) → Good p
  ahead-good = before-feasible r split each

  ahead-line : (p : ℕ) → In p (before r) → line_of r p ≡ line_of s p
  ahead-line p m = sym (line_same p ((before-exactly r).below p m) (ahead-good p m))

  split-line : (p : ℕ) → In p (split_front r) → line_of r p ≡ line_of s p
  split-line p m = sym (line_same p ((split-exactly r).below p m) (each p m))

  split_far : (p : ℕ) → In p (split_front r) → (association r p).distance ≡ (association s p).distance
  split_far p m = sym (far_same p ((split-exactly r).below p m) (each p m))

  abbrev far_r : ℕ → Float
  far_r p = (association r p).distance

  abbrev far_s : ℕ → Float
  far_s p = (association s p).distance

  filled-same : filled r ≡ filled s
  unfolding filled
  filled-same =
      picks_agree (setting r some split) (line_of s) far_r far_s ahead-line split-line (λ p q m k e. ap₂ lt (split_far p m) (split_far q k))
      (r.size - length (before r)) r.state (split-room r split)
      ∙ ap₂ (λ b f. picks (line_of s) far_s (line_count r) b f (r.size - length b) r.state) (sym before_same) (sym front_same)

  rules-same : filled_rules r ≡ filled_rules s
  unfolding filled_rules
  rules-same =
      rules_agree (setting r some split) (line_of s) far_r far_s ahead-line split-line (λ p q m k e. ap₂ lt (split_far p m) (split_far q k))
      (r.size - length (before r)) r.state (split-room r split)
      ∙ ap₂ (λ b f. pick_rules (line_of s) far_s (line_count r) b f (r.size - length b) r.state) (sym before_same) (sym front_same)

  -- ---- all that is handed out

  parts_same : selected_split r ≡ selected_split s
  unfolding selected_split
  parts_same =
      let fr = front_list (dominance r) r.count in
      let lr = list_below (line_mark r) r.count in
      let ir = list_below (ideal_of r) (objectives r) in
      ap₂ (λ b f. handed b f (filled_rules r) fr lr ir) (sym before_same) filled-same
      ∙ ap₂ (λ m k. handed (before s) (filled s) m k lr ir) rules-same (sym (fronts.front_list-same (dominance s) (dominance r) r.count dominance-same))
      ∙ ap₂ (λ l i. handed (before s) (filled s) (filled_rules s) (front_list (dominance s) r.count) l i)
      (list_below-same (line_mark r) (line_mark s) r.count (λ p h. sym (mark-same p h)))
      ideals_same

  plans-same : selected r ≡ selected s
  unfolding selected
  plans-same = ap (λ b. by_split b r) split ∙ parts_same ∙ sym (ap (λ b. by_split b s) split-same)

  -- ---- a generation step on the same settings

  module _ (ranked : ranks_by_rows r.edition ≡ false) (settings : (p : ℕ) → p < r.count → (plans p).settings ≡ (r.plans p).settings) (o : Operators) where
    ranks-same : (kept : List ℕ) → rank_of r kept ≡ rank_of s kept
    unfolding rank_of
    ranks-same kept = fun_ext (λ i.
        ap (λ b. front_of (cond b (row_beats r.marks r.plans) (dominance r)) r.count (get_or kept i 0)) ranked
        ∙ sym (fronts.front_of-same (dominance s) (dominance r) r.count dominance-same (get_or kept i 0))
        ∙ sym (ap (λ b. front_of (cond b (row_beats r.marks plans) (dominance s)) r.count (get_or kept i 0)) ranked))

    kept-pool : Below r.count (selected r).kept
    unfolding filled
    kept-pool = subst (Below r.count) (sym (split-kept r split)) (below-append r.count (before r) (filled r).value (before-exactly r).below
        (picks-below r.count (omega (arith, split-many r split)) (line_of r) far_r (line_count r) (before r) (split_front r) (split-exactly r).below (r.size - length (before r)) r.state))

    parents-same : (t : ℕ) → parents_of o.dims o.dim_count r.plans (selected r).kept t ≡ parents_of o.dims o.dim_count plans (selected r).kept t
    parents-same t =
        let kept = (selected r).kept in
        in_turn-same (λ l a. l ++ (a ∷ [])) [] (parent_in o.dims o.dim_count r.plans kept) (parent_in o.dims o.dim_count plans kept) (λ i l. Unit {0}) t (length kept) tt
        (λ i l u h k. tt) (λ i l u h k. ap (λ x. extract o.dims o.dim_count (sort_by_param x) u) (sym (settings (get_or kept i 0) (kept-pool (get_or kept i 0) (get_d_in kept i h)))))

    bred-same : bred_of o r.plans (rank_of r (selected r).kept) (selected r).kept r.size (selected r).state
        ≡ bred_of o plans (rank_of s (selected s).kept) (selected s).kept r.size (selected s).state
    bred-same =
        ap (λ d. offspring_of o d.value (rank_of r (selected r).kept) r.size d.state) (parents-same (selected r).state)
        ∙ ap (λ k. bred_of o plans k (selected r).kept r.size (selected r).state) (ranks-same (selected r).kept)
        ∙ ap (λ x. bred_of o plans (rank_of s x.kept) x.kept r.size x.state) plans-same

    born-same : born_of o r (selected r).kept (selected r).state ≡ born_of o s (selected s).kept (selected s).state
    unfolding born_of
    born-same = ap (λ (d : Drawn (List (List ParamValue))). drawn (moved_by (moves_to_step r.edition) o.dims o.dim_count d.value) d.state) bred-same

    abbrev born : Selected → Drawn (List (List ParamValue)) → Generation
    born x d = record { selection = x; offspring = d.value; state = d.state }

    two-plans : 2 ≤ r.count
    two-plans = omega (arith, split-many r split, split-short r split)

    generation-same : generation o r ≡ generation o s
    unfolding generation_of
    generation-same = generation-many o r two-plans ∙ ap₂ born plans-same born-same ∙ sym (generation-many o s two-plans)

-- ---- two requests

abbrev made : Edition → List ℕ → ℕ → ℕ → ℕ → (ℕ → Plan) → List Float → ℕ → Request
made e m d z n plans i t = record { edition = e; marks = m; divisions = d; size = z; count = n; plans = plans; ideal = i; state = t }

module _ (r s : Request) (h : HopelessRows r s) where
  is_with : with_plans r s.plans ≡ s
  is_with =
      ap₂ (λ e m. made e m r.divisions r.size r.count s.plans r.ideal r.state) (h.edition ∙ sym h.same_edition) (sym h.directions)
      ∙ ap₂ (λ d z. made s.edition s.marks d z r.count s.plans r.ideal r.state) (sym h.lines) (sym h.size)
      ∙ ap₂ (λ n i. made s.edition s.marks s.divisions s.size n s.plans i r.state) (sym h.count) (sym h.ideal)
      ∙ ap (λ t. made s.edition s.marks s.divisions s.size s.count s.plans s.ideal t) (sym h.state)

  -- THE THEOREM
  pub hopeless : Accepted r → selected r ≡ selected s
  hopeless accepted =
      plans-same r s.plans (ap passes_over h.edition) h.constraints h.rows h.split h.feasible (accepted-lines r accepted)
      ∙ ap selected is_with

  -- THEOREM: and both pools have the same own part and the same ideal with it
  pub hopeless_own : Accepted r → own_words r ≡ own_words s
  hopeless_own accepted =
      words_same r s.plans (ap passes_over h.edition) h.constraints h.rows h.split h.feasible (accepted-lines r accepted)
      ∙ ap own_words is_with

  pub hopeless_ideal : Accepted r → list_below (ideal_of r) (objectives r) ≡ list_below (ideal_of s) (objectives s)
  hopeless_ideal accepted =
      ideals_same r s.plans (ap passes_over h.edition) h.constraints h.rows h.split h.feasible (accepted-lines r accepted)
      ∙ ap (λ (t : Request). list_below (ideal_of t) (objectives t)) is_with

  -- THEOREM: so does a generation step whose pools have the same settings breed the same
  pub hopeless_generation : Accepted r → ((p : ℕ) → p < r.count → (s.plans p).settings ≡ (r.plans p).settings) → (o : Operators) → generation o r ≡ generation o s
  hopeless_generation accepted settings o =
      generation-same r s.plans (ap passes_over h.edition) h.constraints h.rows h.split h.feasible (accepted-lines r accepted)
      (ap ranks_by_rows h.edition) settings o
      ∙ ap (generation o) is_with
