-- THEOREM: every distance of a plan from a line of the table, of a request whose numbers refusal 8 lets pass and that has 1 to 8 objectives and 1 to 199
-- divisions, is the paper's, or in edition 2 its square, and, where the plan shapes the scale, no NaN and below infinity.
use Prim.Native.Nat.{ℕ, ◌≤◌, ◌<◌}
use mathlib.Core.Path.{◌≡◌, refl, ap, sym, subst, ◌∙◌}
use mathlib.Core.Bool.{true, false, cond}
use lib.Dec.{T, lit≤, lit<}
use lib.Ieee.{Float, binary64, lt, le, of_bits, fits, is_nan}
use Rattle.model.specs.declared.Edition.{Edition}
use Rattle.model.specs.declared.Edition.TheVariants.{First, Second}
use Rattle.model.specs.Edition.{takes_root}
use Rattle.model.specs.Lists.{In}
use Rattle.model.specs.Real.{◌⊗◌, ◌⊘◌, infinity}
use Rattle.model.specs.Numbers.{sqrt_of}
use Rattle.model.specs.Association.{Request, objectives, line_count, shapers, normalised, coordinate, dot, off_squares, squares_of, measure_of, distance, distance_to, small_norm}
use Rattle.model.specs.Papers.DebJain2014.{perpendicular_square}
use Rattle.list_laws.proofs.Bools.{T_true, T_false}
use Rattle.float_laws.proofs.Order.{le_trans, le_not_nan, le_lt_trans, nlt→le}
use Rattle.float_laws.proofs.Constants.{nought, nought-not-nan, one, exp2}
use Rattle.float_laws.proofs.FromZero.{Upto, upto-within}
use Rattle.float_laws.proofs.Magnitude.{Within, within-number, within-not-nan, sub_within, mul-within, div_within, within_wider}
use Rattle.real_laws.proofs.Roots.Monotone.{sqrt_mono, sqrt_from_zero}
use Rattle.association_laws.specs.Measurable.{Measurable}
use Rattle.association_laws.specs.Paper.{perpendicular_by}
use Rattle.association_laws.proofs.Search.{squares_long, distance_measure, squares_perpendicular, perpendicular_root}
use Rattle.association_laws.proofs.Within.{normalised-wide}
use Rattle.association_laws.proofs.Squares.{squares_square}
use Rattle.float_laws.proofs.Sums.{sum-within}
use Rattle.association_laws.proofs.Coordinates.{sixty_fourth, usable}

-- ---- a point p of m coordinates within 0..2 ^ k, for any k up to 100, and a line r of m coordinates within 0..1 that is not short

closed : T (fits binary64 (exp2 238)) × T (lt (exp2 238) infinity) × T (le (exp2 119) (exp2 238))
unfolding fits lt le
closed = (tt, tt, tt)

root_top : T (le (sqrt_of (exp2 238)) (exp2 119))
unfolding sqrt_of le
root_top = tt

module _ (m : ℕ) (few : m ≤ 8) (k : ℕ) (small : k ≤ 100) (p r : ℕ → Float) (P : (j : ℕ) → j < m → Upto (exp2 k) (p j)) (R : (j : ℕ) → j < m → Upto one (r j))
    (norm : T (le sixty_fourth (dot m r r))) (long : lt (dot m r r) small_norm ≡ false) where
  -- every bound below is that of k = 100
  point_within : (j : ℕ) → j < m → Within 100 (p j)
  point_within j h = within_wider k 100 (p j) small (upto-within k (p j) (P j h))

  line-within : (j : ℕ) → j < m → Within 0 (r j)
  line-within j h = upto-within 0 (r j) (R j h)

  dot-within : (q : ℕ → Float) → ((j : ℕ) → j < m → Within 100 (q j)) → Within 108 (dot m q r)
  dot-within q Q = sum-within 100 (λ j. q j ⊗ r j) m 8 few (lit≤ tt) (λ j h. mul-within 100 0 (q j) (r j) (lit≤ tt) (Q j h) (line-within j h))

  projected : Within 114 (dot m p r ⊘ dot m r r)
  unfolding of_bits
  projected =
      let own = dot-within r (λ j h. within_wider 0 100 (r j) (lit≤ tt) (line-within j h)) in
      div_within 108 5 (dot m p r) (dot m r r) (lit< tt) (lit≤ tt) (dot-within p point_within) (within-number 108 (dot m r r) own) norm

  off : Within 238 (off_squares m p r (dot m p r ⊘ dot m r r))
  off =
      let t = dot m p r ⊘ dot m r r in
      sum-within 230 _ m 8 few (lit≤ tt)
      (λ j h. let d = sub_within 114 (p j) (t ⊗ r j) (lit≤ tt) (within_wider 100 114 (p j) (lit≤ tt) (point_within j h)) (mul-within 114 0 t (r j) (lit≤ tt) projected (line-within j h)) in
      mul-within 115 115 _ _ (lit≤ tt) d d)

  squares_within : Within 238 (squares_of m p r)
  squares_within = subst (Within 238) (sym (squares_long m p r (dot m r r) refl long)) off

  squares_from : T (le nought (squares_of m p r))
  squares_from = nlt→le (squares_of m p r) nought (within-not-nan 238 (squares_of m p r) squares_within) nought-not-nan (squares_square m p r).low

  root_bounds : T (le nought (sqrt_of (squares_of m p r))) × T (le (sqrt_of (squares_of m p r)) (exp2 119))
  root_bounds =
      let S = squares_of m p r in
      let w = squares_within in (
        sqrt_from_zero S w.held squares_from,
        le_trans (sqrt_of S) (sqrt_of (exp2 238)) (exp2 119) (sqrt_mono S (exp2 238) w.held closed.0 squares_from w.high) root_top,
      )

  -- root and square are both at most 2 ^ 238
  measure_bounds : (e : Edition) → T (le nought (measure_of e (squares_of m p r))) × T (le (measure_of e (squares_of m p r)) (exp2 238))
  measure_bounds First = (root_bounds.0, le_trans (sqrt_of (squares_of m p r)) (exp2 119) (exp2 238) root_bounds.1 closed.2)
  measure_bounds Second = (squares_from, squares_within.high)

  distance-number : (e : Edition) → (is_nan (distance e m p r) ≡ false) × (lt (distance e m p r) infinity ≡ true)
  distance-number e =
      let d = measure_of e (squares_of m p r) in
      let b = measure_bounds e in
      rw (distance_measure e m p r) (
        T_false (is_nan d) (le_not_nan nought d b.0).1,
        T_true (lt d infinity) (le_lt_trans d (exp2 238) infinity b.1 closed.1),
      )

-- ---- a request

module _ (r : Request) (wide : 1 ≤ objectives r) (narrow : objectives r ≤ 8) (some : 1 ≤ r.divisions) (few : r.divisions ≤ 199) where
  -- no line is short, so each sum of squares is the square of the paper's distance, whatever the plans' values are
  pub squares_paper : (p l : ℕ) → l < line_count r
      → squares_of (objectives r) (normalised r p) (coordinate r l) ≡ perpendicular_square (objectives r) (normalised r p) (coordinate r l)
  unfolding coordinate
  squares_paper p l k =
      squares_perpendicular (objectives r) (normalised r p) (coordinate r l) (usable (objectives r) r.divisions l wide narrow some few k).not_small

  -- and each distance is the paper's, or in edition 2 its square
  pub distance_to-paper : (p l : ℕ) → l < line_count r → distance_to r p l ≡ perpendicular_by r.edition (objectives r) (normalised r p) (coordinate r l)
  unfolding distance_to
  distance_to-paper p l k =
      distance_measure r.edition (objectives r) (normalised r p) (coordinate r l) ∙ ap (measure_of r.edition) (squares_paper p l k)
      ∙ ap (λ x. cond (takes_root r.edition) x (perpendicular_square (objectives r) (normalised r p) (coordinate r l)))
      (sym (perpendicular_root (objectives r) (normalised r p) (coordinate r l)))

  -- THEOREM: no distance of a plan that shapes the scale is a NaN, and each is below infinity: its normalised values lie within 0..2 ^ 100
  pub distance_to-number : Measurable r → (p : ℕ) → In p (shapers r) → (l : ℕ) → l < line_count r
      → (is_nan (distance_to r p l) ≡ false) × (lt (distance_to r p l) infinity ≡ true)
  unfolding distance_to coordinate
  distance_to-number M p h l k =
      let u = usable (objectives r) r.divisions l wide narrow some few k in
      distance-number (objectives r) narrow 100 (lit≤ tt) (normalised r p) (coordinate r l) (λ j g. normalised-wide r M p j h g) u.in_unit u.norm u.not_small r.edition
