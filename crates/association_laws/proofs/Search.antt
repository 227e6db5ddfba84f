-- One more turn of the search for the nearest line. A square that is not below the best one has no root below the best one's, and one that is below it
-- times 1 - 2 ^ -30 has: in neither case need a root be taken. In edition 2 none is.
use Prim.Native.Nat.{ℕ, ◌+◌}
use mathlib.Core.Path.{◌≡◌, refl, ap, ap₂, sym, ◌∙◌}
use mathlib.Core.Bool.{true, false, not, true≢false, cond, Bool}
use lib.Dec.{T}
use lib.Ieee.{Float, nan, binary64, lt, le, is_nan, fits}
use lib.Ieee.Fits.{inf-fits, cond-fits}
use Rattle.model.specs.declared.Edition.{Edition}
use Rattle.model.specs.declared.Edition.TheVariants.{First, Second}
use Rattle.model.specs.Edition.{takes_root}
use Rattle.model.specs.Real.{◌⊗◌, ◌⊘◌, infinity}
use Rattle.model.specs.Numbers.{sqrt_of}
use Rattle.model.specs.Association.{dot, small_norm, off_squares, squares_of, measure_of, distance, near, nearest_of, nearer}
use Rattle.model.specs.Lists.{best_from}
use Rattle.model.specs.Papers.DebJain2014.{perpendicular, perpendicular_square}
use Rattle.list_laws.proofs.Bools.{by_bool, T_true, true_T, T_false, false_T}
use Rattle.float_laws.proofs.Order.{le→nlt, nlt→le, le_not_nan, lt_not_nan}
use Rattle.float_laws.proofs.Compared.{nan-below, below_nan}
use Rattle.float_laws.proofs.Constants.{nought, nought-not-nan}
use Rattle.float_laws.proofs.Sums.{sum_fits}
use Rattle.real_laws.proofs.Roots.Nearest.{no_root}
use Rattle.real_laws.proofs.Roots.Monotone.{sqrt_mono}
use Rattle.real_laws.proofs.Roots.Apart.{nearly_one, sqrt_apart}
use Rattle.association_laws.specs.Search.{Square, Found}
use Rattle.list_laws.proofs.Best.{best_more}

-- ---- the distance is the root of its square, or in edition 2 the square

pub distance_measure : (e : Edition) (m : ℕ) (p r : ℕ → Float) → distance e m p r ≡ measure_of e (squares_of m p r)
unfolding distance
distance_measure e m p r = refl

module _ (m : ℕ) (p r : ℕ → Float) where
  module _ (norm : Float) (e : norm ≡ dot m r r) where
    pub squares_short : lt norm small_norm ≡ true → squares_of m p r ≡ infinity
    unfolding squares_of
    squares_short h = rw (← e, h)

    pub squares_long : lt norm small_norm ≡ false → squares_of m p r ≡ off_squares m p r (dot m p r ⊘ norm)
    unfolding squares_of
    squares_long h = rw (← e, h)

  -- from a line that is not short it is the square of the paper's perpendicular distance
  pub squares_perpendicular : lt (dot m r r) small_norm ≡ false → squares_of m p r ≡ perpendicular_square m p r
  unfolding perpendicular_square
  squares_perpendicular h = squares_long (dot m r r) refl h

-- of which that distance is the root
pub perpendicular_root : (m : ℕ) (p r : ℕ → Float) → perpendicular m p r ≡ sqrt_of (perpendicular_square m p r)
unfolding perpendicular perpendicular_square
perpendicular_root m p r = refl

pub squares_fit : (m : ℕ) (p r : ℕ → Float) → T (fits binary64 (squares_of m p r))
unfolding squares_of
squares_fit m p r =
    cond-fits binary64 (lt (dot m r r) small_norm) infinity (off_squares m p r (dot m p r ⊘ dot m r r)) (inf-fits binary64 false) (sum_fits _ m)

-- ---- roots in the order of squares

pub from-nought : (s q : Float) → T (not (lt s nought)) → T (lt s q) → T (le nought s)
from-nought s q h k = nlt→le s nought (lt_not_nan s q k).0 nought-not-nan h

pub root_order : (x y : Float) → T (fits binary64 x) → T (fits binary64 y) → lt x y ≡ false → lt (sqrt_of x) (sqrt_of y) ≡ false
unfolding is_nan
root_order x y X Y h = by_bool (le nought x)
    (λ a. by_bool (le nought y)
    (λ b. let u = true_T (le nought x) a in
    let v = true_T (le nought y) b in
    let l = nlt→le x y (le_not_nan nought x u).1 (le_not_nan nought y v).1 (false_T (lt x y) h) in
    T_false (lt (sqrt_of x) (sqrt_of y)) (le→nlt (sqrt_of y) (sqrt_of x) (sqrt_mono y x Y X v l)))
    (λ b. ap (lt (sqrt_of x)) (no_root y Y (not-from y b)) ∙ below_nan (sqrt_of x) nan refl))
    (λ a. ap (λ t. lt t (sqrt_of y)) (no_root x X (not-from x a)) ∙ nan-below nan (sqrt_of y) refl)
  where
    not-from : (z : Float) → le nought z ≡ false → T (le nought z) → ⊥
    not-from z e t = true≢false (sym (T_true (le nought z) t) ∙ e)

-- ---- what the editions measure by, in the order of squares

measure_order : (e : Edition) (x y : Float) → T (fits binary64 x) → T (fits binary64 y) → lt x y ≡ false → lt (measure_of e x) (measure_of e y) ≡ false
measure_order First x y X Y h = root_order x y X Y h
measure_order Second x y X Y h = h

-- a square that is clearly below another has the lesser measure
pub measure_apart : (e : Edition) (s q : Float) → Square s → T (fits binary64 q) → lt s q ≡ true → lt s (q ⊗ nearly_one) ≡ true → lt (measure_of e s) (measure_of e q) ≡ true
measure_apart First s q S Q a b =
    let k = true_T (lt s q) a in
    T_true (lt (sqrt_of s) (sqrt_of q)) (sqrt_apart s q S.held Q (from-nought s q S.low k) k (true_T (lt s (q ⊗ nearly_one)) b))
measure_apart Second s q S Q a b = a

measure_infinity : (e : Edition) → measure_of e infinity ≡ infinity
unfolding sqrt_of
measure_infinity First = refl
measure_infinity Second = refl

-- the order of two squares where no root is taken
pub measure_square : (e : Edition) (x y : Float) → takes_root e ≡ false → lt (measure_of e x) (measure_of e y) ≡ lt x y
measure_square First x y h = absurd (true≢false h)
measure_square Second x y h = refl

-- ---- the search

-- one line more is the nearest, or the one found before it
nearest-next : (d : ℕ → Float) (n : ℕ) {b : Bool} → lt (d n) (nearest_of d n).distance ≡ b → cond b (near n (d n)) (nearest_of d n) ≡ nearest_of d (n + 1)
nearest-next d n e = best_more nearer (near 0 infinity) (λ l. near l (d l)) n refl e

pub found_none : (e : Edition) (d : ℕ → Float) → Found e d 0 0 infinity
unfolding best_from
found_none e d = record { nearest = refl; measured = measure_infinity e; held = inf-fits binary64 false }

-- s is the next line's square
module _ (e : Edition) (d : ℕ → Float) (n l : ℕ) (q s : Float) (f : Found e d n l q) (S : Square s) (own : measure_of e s ≡ d n) where
  pub found_taken : lt (measure_of e s) (measure_of e q) ≡ true → Found e d (n + 1) n s
  found_taken h =
      let here = nearest-next d n (ap₂ lt (sym own) (sym f.measured) ∙ h) in
      record { nearest = ap (λ b. b.line) here; measured = own ∙ ap (λ b. b.distance) here; held = S.held }

  pub found_passed : lt (measure_of e s) (measure_of e q) ≡ false → Found e d (n + 1) l q
  found_passed h =
      let here = nearest-next d n (ap₂ lt (sym own) (sym f.measured) ∙ h) in
      record { nearest = f.nearest ∙ ap (λ b. b.line) here; measured = f.measured ∙ ap (λ b. b.distance) here; held = f.held }

  -- a square that is clearly below the best one
  pub found_clear : lt s q ≡ true → lt s (q ⊗ nearly_one) ≡ true → Found e d (n + 1) n s
  found_clear a b = found_taken (measure_apart e s q S f.held a b)

  -- y and x are the measures of the two
  module _ (y x : Float) (g : y ≡ measure_of e s) (h : x ≡ measure_of e q) where
    pub found-nearer : lt y x ≡ true → Found e d (n + 1) n s
    found-nearer k = found_taken (ap₂ lt (sym g) (sym h) ∙ k)

    pub found-same : lt y x ≡ false → Found e d (n + 1) l q
    found-same k = found_passed (ap₂ lt (sym g) (sym h) ∙ k)

  -- a square that is not below the best one
  pub found_farther : lt s q ≡ false → Found e d (n + 1) l q
  found_farther h = found_passed (measure_order e s q S.held f.held h)

  -- a square below the best one, where no root is taken
  pub found-less : takes_root e ≡ false → lt s q ≡ true → Found e d (n + 1) n s
  found-less whole h = found_taken (measure_square e s q whole ∙ h)
