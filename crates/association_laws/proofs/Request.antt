-- What the functions of `association` leave is what document 01 says of a request: its ideal, intercepts, normalised rows, lines and distances.
use Prim.Native.Nat.{ℕ, ◌≤◌, ◌<◌}
use mathlib.Core.Path.{◌≡◌, ap, ap₂, sym, subst, ◌∙◌}
use mathlib.Core.Bool.{true, cond}
use mathlib.Core.List.{List, flatten}
use lib.Ieee.{Float, nan, inf, lt}
use lib.ListN.{length, get_or}
use Rattle.model.specs.declared.Edition.{Edition}
use Rattle.model.specs.Lists.{best_from, list_below, over}
use Rattle.model.specs.Real.{◌⊖◌, ◌⊘◌, above}
use Rattle.model.specs.Reference.{das_dennis}
use Rattle.model.specs.Association.{Request, objectives, line_count, value_of, shapers, ideal_of, old_intercept_of, shaper_value, plane_intercept_of, intercept_of, normalised, coordinate, distance_to, distance, association, intercept_from, nearest_of}
use Rattle.model.specs.Edition.{uses_plane}
use Rattle.model.specs.Hyperplane.{intercepts_of}
use Rattle.list_laws.specs.Rows.{flat_rows}
use Rattle.list_laws.proofs.Best.{best_same}
use Rattle.list_laws.proofs.Built.{over-same, over_below}
use Rattle.list_laws.proofs.Rows.{rows_at}
use Rattle.reference_laws.proofs.Rows.{table_at}
use Rattle.hyperplane_laws.specs.Flat.{listed}
use Rattle.hyperplane_laws.proofs.Same.{intercepts-same}
use Rattle.association_laws.specs.Flat.{row_at, column, greatest_below, least_at, intercept_at, plane_intercept_at, intercept_by, normal_at, nearest_at, NearestAll}
use Rattle.association_laws.specs.Request.{shaper_at, ShapersIn, StartIn, IdealIn, InterceptsIn, NormalisedIn, LinesIn, Associates}
use Rattle.association_laws.proofs.Same.{distance-same, nearest-same}

-- ---- what `das_dennis` leaves: the request's k lines
pub lines_at : (r : Request) → 1 ≤ objectives r → (k : ℕ) → k ≡ line_count r → (table old : List Float)
    → table ≡ over (flatten (das_dennis (objectives r) r.divisions)) old → LinesIn r table k (objectives r)
unfolding coordinate
lines_at r some k c table old e l j g i =
    ap (λ t. row_at t (objectives r) l j) e ∙ table_at (objectives r) r.divisions l j old some (subst (λ t. l < t) c g) i

module _ (r : Request) (rows : List Float) (n m : ℕ) (P : ShapersIn r rows n m) where
  -- ---- what `update_ideal_point` leaves, from the request's ideal
  module _ (old : List Float) (start : StartIn r old m) where
    least_is : (j : ℕ) → j < m → least_at rows n m old j ≡ ideal_of r j
    unfolding ideal_of
    least_is j h =
        best_same lt (get_or old j nan) (column rows m j) (λ i. value_of r (shaper_at r i) j) n (λ i k. P.values i j k h)
        ∙ ap₂ (λ b k. best_from lt b (λ i. value_of r (shaper_at r i) j) k) (start j h) P.count

    ideal-at : (ideal : List Float) → ideal ≡ over (list_below (least_at rows n m old) m) old → IdealIn r ideal m
    ideal-at ideal e j h = over_below (least_at rows n m old) m ideal old j nan e h ∙ least_is j h

  -- ---- what `find_edition_intercepts` leaves, from the ideal
  module _ (ideal : List Float) (z : IdealIn r ideal m) where
    old_is : (j : ℕ) → j < m → intercept_at rows n m ideal j ≡ old_intercept_of r j
    unfolding old_intercept_of
    old_is j h =
        ap₂ (λ g i. intercept_from (g ⊖ i))
        (best_same above (inf true) (column rows m j) (λ i. value_of r (shaper_at r i) j) n (λ i k. P.values i j k h)
        ∙ ap (best_from above (inf true) (λ i. value_of r (shaper_at r i) j)) P.count)
        (z j h)

    plane_is : 0 < n → (j : ℕ) → j < m → plane_intercept_at rows n m ideal j ≡ plane_intercept_of r j
    unfolding plane_intercept_of
    plane_is some j h =
        intercepts-same n m (row_at rows m) (shaper_value r) (listed ideal) (ideal_of r)
        P.values z some
        (intercept_at rows n m ideal) (old_intercept_of r) j (old_is j h)
        ∙ ap₂ (λ (a b : ℕ). intercepts_of a b (shaper_value r) (ideal_of r) (old_intercept_of r) j) P.count P.width

    intercept_is : 0 < n → (j : ℕ) → j < m → intercept_by r.edition rows n m ideal j ≡ intercept_of r j
    unfolding intercept_of
    intercept_is some j h = ap₂ (λ (a b : Float). cond (uses_plane r.edition) a b) (plane_is some j h) (old_is j h)

    intercepts-at : 0 < n → (intercepts old : List Float) → intercepts ≡ over (list_below (intercept_by r.edition rows n m ideal) m) old → InterceptsIn r intercepts m
    intercepts-at some intercepts old e j h = over_below (intercept_by r.edition rows n m ideal) m intercepts old j nan e h ∙ intercept_is some j h

    -- ---- what `normalize_objectives` leaves, from both
    pub normalised-at : (intercepts : List Float) → InterceptsIn r intercepts m → (normalized old : List Float)
        → normalized ≡ over (flat_rows (normal_at rows m ideal intercepts) n m) old → NormalisedIn r normalized n m
    unfolding normalised
    normalised-at intercepts a normalized old e p j h k =
        rows_at (normal_at rows m ideal intercepts) n m nan normalized old p j e h k
        ∙ ap₂ (λ v i. v ⊘ i) (ap₂ (λ v i. v ⊖ i) (P.values p j h k) (z j k)) (a j k)

  -- ---- what `associate_to_reference_points` leaves, from the normalised rows and the table
  module _ (e : Edition) (same : e ≡ r.edition) (normalized : List Float) (a : NormalisedIn r normalized n m) (table : List Float) (k : ℕ) (b : LinesIn r table k m)
      (c : k ≡ line_count r) where
    nearest_is : (i : ℕ) → i < n → nearest_at e normalized m table k i ≡ association r (shaper_at r i)
    unfolding association distance_to
    nearest_is i h =
        let p = shaper_at r i in
        nearest-same _ _ k (λ l g. distance-same e m _ (normalised r p) _ (coordinate r l) (λ j u. a i j h u) (λ j u. b l j g u)
        ∙ ap₂ (λ v w. distance v w (normalised r p) (coordinate r l)) same P.width)
        ∙ ap (nearest_of (distance_to r p)) c

-- ---- what `associate` leaves: the four steps one after the other
module _ (r : Request) (e : Edition) (same : e ≡ r.edition) (rows : List Float) (n m : ℕ) (some : 0 < n) (P : ShapersIn r rows n m)
    (table : List Float) (k : ℕ) (T : LinesIn r table k m) (c : k ≡ line_count r)
    (ideal₀ ideal : List Float) (start : StartIn r ideal₀ m) (e₁ : ideal ≡ over (list_below (least_at rows n m ideal₀) m) ideal₀)
    (intercepts₀ intercepts : List Float) (e₂ : intercepts ≡ over (list_below (intercept_by e rows n m ideal) m) intercepts₀)
    (normalized₀ normalized : List Float) (e₃ : normalized ≡ over (flat_rows (normal_at rows m ideal intercepts) n m) normalized₀)
    (lines₀ lines : List ℕ) (distances₀ distances : List Float) (e₄ : NearestAll e normalized m table k n lines₀ lines distances₀ distances) where
  pub all_steps : Associates r n m ideal₀ ideal lines₀ lines distances₀ distances
  all_steps =
      let z = ideal-at r rows n m P ideal₀ start ideal e₁ in
      let own = e₂ ∙ ap (λ (v : Edition). over (list_below (intercept_by v rows n m ideal) m) intercepts₀) same in
      let a = normalised-at r rows n m P ideal z intercepts (intercepts-at r rows n m P ideal z some intercepts intercepts₀ own) normalized normalized₀ e₃ in
      let near = nearest_is r rows n m P e same normalized a table k T c in
      record {
        moved = over-same _ _ m ideal ideal₀ (least_is r rows n m P ideal₀ start) e₁;
        nearest = over-same _ _ n lines lines₀ (λ p h. ap (λ x. x.line) (near p h)) e₄.line;
        distance = over-same _ _ n distances distances₀ (λ p h. ap (λ x. x.distance) (near p h)) e₄.distance;
      }
