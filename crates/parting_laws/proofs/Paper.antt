-- THEOREM: in both editions the perpendicular distance of a plan from its line is least: edition 2 chooses by squares among the lines that are nearest by roots.
use Prim.Native.Nat.{ℕ, ◌≤◌, ◌<◌}
use mathlib.Core.Path.{◌≡◌, sym, subst}
use mathlib.Core.Bool.{true, not}
use lib.Dec.{T}
use lib.Ieee.{Float, le, lt}
use Rattle.model.specs.declared.Edition.{Edition}
use Rattle.model.specs.declared.Edition.TheVariants.{First, Second}
use Rattle.model.specs.Plan.{max_objectives}
use Rattle.model.specs.Papers.DebJain2014.{perpendicular, perpendicular_square, Associated}
use Rattle.model.specs.Association.{Request, objectives, line_count, shapes, normalised, coordinate, line_of}
use Rattle.float_laws.proofs.Order.{nlt→le, le_not_nan}
use Rattle.float_laws.proofs.Constants.{nought, nought-not-nan}
use Rattle.real_laws.proofs.Roots.Monotone.{sqrt_mono}
use Rattle.reference_laws.proofs.Divisions.{Allowed, allowed}
use Rattle.association_laws.specs.Measurable.{Measurable}
use Rattle.association_laws.specs.Paper.{perpendicular_by}
use Rattle.association_laws.specs.Search.{Square}
use Rattle.association_laws.proofs.Search.{perpendicular_root}
use Rattle.association_laws.proofs.Squares.{squares_square}
use Rattle.association_laws.proofs.Finite.{squares_paper}
use Rattle.demand3_laws.specs.Facts.{Accepted}
use Rattle.demand3_laws.proofs.Passed.{some-objectives}
use Rattle.demand3_laws.proofs.Paper.{association-associated}

-- what is least by an edition's measure is least by roots
by-roots : (e : Edition) (m : ℕ) (s v w : ℕ → Float) → Square (perpendicular_square m s v) → Square (perpendicular_square m s w)
    → T (le (perpendicular_by e m s v) (perpendicular_by e m s w)) → T (le (perpendicular m s v) (perpendicular m s w))
by-roots First m s v w hv hw h = h
by-roots Second m s v w hv hw h =
    let x = perpendicular_square m s v in
    let y = perpendicular_square m s w in
    rw (perpendicular_root m s v, perpendicular_root m s w)
    (sqrt_mono x y hv.held hw.held (nlt→le x nought (le_not_nan x y h).0 nought-not-nan hv.low) h)

module _ (r : Request) (accepted : Accepted r) (measured : Measurable r) where
  square-of : (p l : ℕ) → l < line_count r → Square (perpendicular_square (objectives r) (normalised r p) (coordinate r l))
  square-of p l k =
      let wide = some-objectives r.marks accepted.directions in
      let divided = allowed (objectives r) r.divisions accepted.divisions in
      subst Square (squares_paper r wide.0 wide.1 divided.least divided.most p l k) (squares_square (objectives r) (normalised r p) (coordinate r l))

  -- THE THEOREM
  pub least-by-roots : (p : ℕ) → p < r.count → shapes r p ≡ true → Associated (perpendicular (objectives r)) (normalised r) (coordinate r) (line_count r) p (line_of r p)
  least-by-roots p h s =
      let a = association-associated r accepted measured p h s in
      record {
        inside = a.inside;
        least = λ j k. by-roots r.edition (objectives r) (normalised r p) (coordinate r (line_of r p)) (coordinate r j)
            (square-of p (line_of r p) a.inside) (square-of p j k) (a.least j k);
      }
