-- THEOREM: every normalised value of a plan that shapes the scale lies within 0 and the edition's bound, 1 in edition 1 and 2 ^ 100 in edition 2, in a request whose
-- numbers refusal 8 lets pass.
use Prim.Native.Nat.{ℕ, ◌<◌}
use mathlib.Core.Path.{◌≡◌, refl, ap, sym, subst, ◌∙◌}
use mathlib.Core.Bool.{Bool, true, false, cond, not, true≢false}
use mathlib.Core.List.{List}
use lib.Dec.{T, lit≤}
use lib.Ieee.{Float, nan, inf, fin, binary64, lt, le, eq, of_bits, fits, is_nan}
use lib.Ieee.Fits.{inf-fits}
use lib.ListN.{length, get_or}
use Rattle.model.specs.declared.Edition.{Edition}
use Rattle.model.specs.declared.Edition.TheVariants.{First, Second}
use Rattle.model.specs.Edition.{uses_plane, greatest_scaled}
use Rattle.model.specs.Lists.{In, over}
use Rattle.model.specs.Real.{◌⊖◌, ◌⊘◌, nought, unit, small_span, within, above}
use Rattle.model.specs.Association.{Request, objectives, value_of, shapers, ideal_of, old_intercept_of, shaper_value, plane_intercept_of, intercept_of, normalised, least_from, greatest, intercept_from}
use Rattle.model.specs.Refusal.{measurable, is_infinity, good_entry}
use Rattle.list_laws.specs.Rows.{flat_rows}
use Rattle.list_laws.proofs.Bools.{by_bool, and_both, T_true, true_T, false_T}
use Rattle.float_laws.proofs.Order.{le_trans, lt_trans, le_not_nan, nlt→le}
use Rattle.float_laws.proofs.Constants.{exp2, minus_exp2, one, one_number, nought_lt_one}
use Rattle.float_laws.proofs.Constants as constants
use Rattle.float_laws.proofs.Arithmetic.{itself}
use Rattle.float_laws.proofs.FromZero.{Upto, upto-wider, sub_upto, share}
use Rattle.float_laws.proofs.Magnitude.{Within, within-number, within-not-nan, sub_within}
use Rattle.list_laws.proofs.Best.{among_all}
use Rattle.list_laws.proofs.Members.{place_of}
use Rattle.front_laws.proofs.Feasible.{measurable-within}
use Rattle.hyperplane_laws.proofs.Bound.{intercepts-upto}
use Rattle.association_laws.specs.Flat.{normal_at}
use Rattle.association_laws.specs.Measurable.{Measurable}
use Rattle.association_laws.specs.Request.{shaper_at, ShapersIn, IdealIn, InterceptsIn, InScale}
use Rattle.association_laws.proofs.Shapers.{shaper_below, shaper_at_in}
use Rattle.association_laws.proofs.Extremes.{Known, least_le, greatest_ge}
use Rattle.association_laws.proofs.Request.{normalised-at}

-- ---- what the tests of refusal 8 say of a double

-- a double from -2 ^ 1000 up, plus infinity among them
record Start (x : Float) : Type 0 where
  held : T (fits binary64 x)
  low : T (le (minus_exp2 1000) x)

infinite-low : (x : Float) → is_infinity x ≡ true → T (le (minus_exp2 1000) x)
unfolding eq le
infinite-low nan e = absurd (true≢false (sym e))
infinite-low (inf true) e = absurd (true≢false (sym e))
infinite-low (inf false) e = tt
infinite-low (fin s m k) e = absurd (true≢false (sym e))

start_of : (x : Float) → T (fits binary64 x) → good_entry x ≡ true → Start x
start_of x h e = by_bool (measurable x)
    (λ v. record { held = h; low = (measurable-within x h v).low })
    (λ v. let i : is_infinity x ≡ true = rw v at e in record { held = h; low = infinite-low x i })

-- ---- one objective: its values f at the places ps, and the ideal b that it starts from
module _ (b : Float) (f : ℕ → Float) (ps : List ℕ) (B : Start b) (F : (q : ℕ) → In q ps → Within 1000 (f q)) (p : ℕ) (h : In p ps) where
  abbrev least : Float
  least = least_from b f ps

  abbrev most : Float
  most = greatest f ps

  known : (q : ℕ) → In q ps → Known (f q)
  known q m = within-not-nan 1000 (f q) (F q m)

  least-below : T (le least (f p))
  least-below = least_le b f ps (le_not_nan (minus_exp2 1000) b B.low).1 known p h

  most-above : T (le (f p) most)
  most-above = greatest_ge f ps known p h

  least-within : Within 1000 least
  least-within =
      let s : Start least = among_all lt Start b f ps B (λ q m. record { held = (F q m).held; low = (F q m).low }) in
      record { held = s.held; low = s.low; high = le_trans least (f p) (exp2 1000) least-below (F p h).high }

  -- so is the greatest; where it starts, at minus infinity, it is a double and at most 2 ^ 1000
  most-within : Within 1000 most
  unfolding le
  most-within = record {
    held = among_all above (λ x. T (fits binary64 x)) (inf true) f ps (inf-fits binary64 true) (λ q m. (F q m).held);
    low = le_trans (minus_exp2 1000) (f p) most (F p h).low most-above;
    high = among_all above (λ x. T (le x (exp2 1000))) (inf true) f ps tt (λ q m. (F q m).high);
  }

  abbrev span : Float
  span = most ⊖ least

  -- what is divided lies between 0 and the span
  part : Upto span (f p ⊖ least)
  part =
      let X = within-number 1000 (f p) (F p h) in
      let Z = within-number 1000 least least-within in
      sub_upto (f p) least most least span X Z (within-number 1000 most most-within) Z least-below most-above (itself least Z) refl

  -- a span above 1e-10 divides, and any other is replaced by 1.0
  wide : T (lt small_span span) → Upto one ((f p ⊖ least) ⊘ span)
  unfolding lt of_bits
  wide l =
      share (f p ⊖ least) span (within-number 1001 span (sub_within 1000 most least (lit≤ tt) most-within least-within)) part
      (lt_trans constants.nought small_span span tt l)

  narrow : T (not (lt small_span span)) → Upto one ((f p ⊖ least) ⊘ unit)
  unfolding of_bits le is_nan
  narrow l =
      let small = nlt→le small_span span tt (le_not_nan (f p ⊖ least) span part.to).1 l in
      share (f p ⊖ least) one (one_number binary64) (upto-wider span one (f p ⊖ least) (le_trans span small_span one small tt) part) nought_lt_one

  normal_unit : Upto one ((f p ⊖ least) ⊘ intercept_from span)
  normal_unit = by_bool (lt small_span span)
      (λ e. rw e (wide (true_T (lt small_span span) e)))
      (λ e. rw e (narrow (false_T (lt small_span span) e)))

-- ---- a request, and a plan that shapes its scale

module _ (r : Request) (M : Measurable r) (p j : ℕ) (h : In p (shapers r)) (k : j < objectives r) where
  abbrev start : Float
  start = get_or r.ideal j nan

  abbrev rise : Float
  rise = value_of r p j ⊖ ideal_of r j

  started : Start start
  started = start_of start (M.start_doubles j k) (M.start j k)

  held : (q : ℕ) → In q (shapers r) → Within 1000 (value_of r q j)
  held q m = let l = shaper_below r q m in measurable-within (value_of r q j) (M.doubles q j l k) (M.values q j l k)

  -- by the old intercepts within 0..1
  old_unit : Upto one (rise ⊘ old_intercept_of r j)
  unfolding ideal_of old_intercept_of
  old_unit = normal_unit start (λ q. value_of r q j) (shapers r) started held p h

  ideal-below : T (le (ideal_of r j) (value_of r p j))
  unfolding ideal_of
  ideal-below = least-below start (λ q. value_of r q j) (shapers r) started held p h

  ideal-within : Within 1000 (ideal_of r j)
  unfolding ideal_of
  ideal-within = least-within start (λ q. value_of r q j) (shapers r) started held p h

  old_wide : Upto (exp2 100) (rise ⊘ old_intercept_of r j)
  unfolding le
  old_wide = upto-wider one (exp2 100) (rise ⊘ old_intercept_of r j) tt old_unit

  -- by the plane's, or the old ones where it does not serve, within 0..2 ^ 100
  plane_upto : Upto (exp2 100) (rise ⊘ plane_intercept_of r j)
  unfolding plane_intercept_of
  plane_upto =
      let s = place_of h in
      let e : value_of r (get_or (shapers r) s.0 0) j ≡ value_of r p j = ap (λ q. value_of r q j) s.2 in
      subst (λ v. Upto (exp2 100) ((v ⊖ ideal_of r j) ⊘ plane_intercept_of r j)) e
      (intercepts-upto (length (shapers r)) (objectives r) (shaper_value r) (ideal_of r) s.0 j s.1 k (subst (Within 1000) (sym e) (held p h)) ideal-within
      (subst (λ v. T (le (ideal_of r j) v)) (sym e) ideal-below) (old_intercept_of r)
      (subst (λ v. Upto (exp2 100) ((v ⊖ ideal_of r j) ⊘ old_intercept_of r j)) (sym e) old_wide))

  abbrev scaled_by : Bool → Float
  scaled_by b = rise ⊘ cond b (plane_intercept_of r j) (old_intercept_of r j)

  by-edition : (e : Edition) → Upto (greatest_scaled e) (scaled_by (uses_plane e))
  unfolding of_bits
  by-edition First = old_unit
  by-edition Second = plane_upto

  -- THEOREM
  pub normalised-upto : Upto (greatest_scaled r.edition) (normalised r p j)
  unfolding normalised intercept_of
  normalised-upto = by-edition r.edition

  -- in either edition within 0..2 ^ 100
  pub normalised-wide : Upto (exp2 100) (normalised r p j)
  unfolding le of_bits
  normalised-wide = upto-wider (greatest_scaled r.edition) (exp2 100) (normalised r p j) (at_most r.edition) normalised-upto
    where
      at_most : (e : Edition) → T (le (greatest_scaled e) (exp2 100))
      at_most First = tt
      at_most Second = tt

  pub normalised-within : within nought (greatest_scaled r.edition) (normalised r p j) ≡ true
  unfolding of_bits
  normalised-within = and_both _ _ (T_true (le nought (normalised r p j)) normalised-upto.from) (T_true (le (normalised r p j) (greatest_scaled r.edition)) normalised-upto.to)

-- ---- what `normalize_objectives` leaves in flat rows
pub rows_in_scale : (r : Request) → Measurable r → (rows : List Float) (n m : ℕ) (P : ShapersIn r rows n m) (ideal : List Float) → IdealIn r ideal m
    → (intercepts : List Float) → InterceptsIn r intercepts m → (normalized old : List Float)
    → normalized ≡ over (flat_rows (normal_at rows m ideal intercepts) n m) old → InScale r.edition normalized n m
rows_in_scale r M rows n m P ideal z intercepts a normalized old e p j h k =
    ap (λ x. within nought (greatest_scaled r.edition) x) (normalised-at r rows n m P ideal z intercepts a normalized old e p j h k)
    ∙ normalised-within r M (shaper_at r p) j (shaper_at_in r p (subst (λ t. p < t) P.count h)) (subst (λ t. j < t) P.width k)
