-- THEOREM: association and niching of an accepted selection are those of Deb and Jain 2014, where its numbers are those that refusal 8 lets pass: then no
-- distance is a NaN, and none is infinite for its line being short.
use Prim.Native.Nat.{ℕ, ◌≤◌, ◌<◌}
use mathlib.Core.Path.{◌≡◌, ap, ap₂, sym, subst, ◌∙◌}
use mathlib.Core.Logic.{inr}
use mathlib.Core.Bool.{true, false}
use lib.Dec.{T}
use lib.Ieee.{le, is_nan}
use Rattle.model.specs.Plan.{max_objectives}
use Rattle.model.specs.Papers.DebJain2014.{Associated}
use Rattle.model.specs.Association.{Request, objectives, line_count, shapes, normalised, coordinate, distance_to, association, line_of}
use Rattle.model.specs.Lists.{In}
use Rattle.model.specs.Kept.{before, is_split, split_front, filled}
use Rattle.float_laws.proofs.Compared.{lt_le}
use Rattle.reference_laws.proofs.Divisions.{Allowed, allowed}
use Rattle.niching_laws.specs.Nearest.{NearestLine}
use Rattle.niching_laws.specs.Niching.{ByProcedure}
use Rattle.niching_laws.proofs.Association.{association-nearest}
use Rattle.association_laws.specs.Measurable.{Measurable}
use Rattle.association_laws.proofs.Shapers.{shaper_in}
use Rattle.association_laws.proofs.Within.{normalised-within}
use Rattle.association_laws.proofs.Finite.{distance_to-paper, distance_to-number}
use Rattle.demand3_laws.specs.Facts.{Accepted}
use Rattle.demand3_laws.specs.Paper.{Scaled, measured_by, from_line, ByPaper}
use Rattle.demand3_laws.proofs.Passed.{some-objectives}
use Rattle.demand3_laws.proofs.Accepted.{accepted-lines}
use Rattle.demand3_laws.proofs.Cut.{split-exactly}
use Rattle.demand3_laws.proofs.Demand3.{filled_procedure}
use Rattle.demand3_laws.proofs.Shapers.{listed-shape}

pub scaled : (r : Request) → Measurable r → Scaled r
scaled r measured p j h s k = normalised-within r measured p j (shaper_in r p h s) k

module _ (r : Request) (accepted : Accepted r) (measured : Measurable r) where
  width : (1 ≤ objectives r) × (objectives r ≤ max_objectives)
  width = some-objectives r.marks accepted.directions

  divided : Allowed (objectives r) r.divisions
  divided = allowed (objectives r) r.divisions accepted.divisions

  -- each distance is the paper's, or in edition 2 its square, and no NaN
  perpendicular-to : (p l : ℕ) → l < line_count r → distance_to r p l ≡ measured_by r (normalised r p) (coordinate r l)
  perpendicular-to = distance_to-paper r width.0 width.1 divided.least divided.most

  known : (p l : ℕ) → p < r.count → shapes r p ≡ true → l < line_count r → is_nan (distance_to r p l) ≡ false
  known p l h s k = (distance_to-number r width.0 width.1 divided.least divided.most measured p (shaper_in r p h s) l k).0

  nearest : (p : ℕ) → NearestLine (distance_to r p) (line_count r) (line_of r p) (association r p).distance
  nearest p = association-nearest r p (accepted-lines r accepted)

  -- and so is the distance that is kept beside a plan
  kept-distance : (p : ℕ) → p < r.count → shapes r p ≡ true → (association r p).distance ≡ from_line r p
  kept-distance p h s =
      let inside = (nearest p).inside in
      (nearest p).distance (known p (line_of r p) h s inside) ∙ perpendicular-to p (line_of r p) inside

  pub association-associated : (p : ℕ) → p < r.count → shapes r p ≡ true → Associated (measured_by r) (normalised r) (coordinate r) (line_count r) p (line_of r p)
  association-associated p h s =
      let l = line_of r p in
      let inside = (nearest p).inside in
      record {
        inside = inside;
        least = λ j k. subst (λ b. T b) (ap₂ le (perpendicular-to p l inside) (perpendicular-to p j k))
            (lt_le (distance_to r p l) (distance_to r p j) (known p l h s inside) (known p j h s k) ((nearest p).nearest j k));
      }

  pub niching_procedure : is_split r ≡ true → ByProcedure (before r) (split_front r) (line_of r) (from_line r) (line_count r) (filled r).value
  niching_procedure split =
      let below = (split-exactly r).below in
      filled_procedure r (accepted-lines r accepted) split (from_line r) (λ p m. kept-distance p (below p m) (listed-shape r p (inr m)))
      (λ p m. let inside = (nearest p).inside in
      ap is_nan (sym (perpendicular-to p (line_of r p) inside)) ∙ known p (line_of r p) (below p m) (listed-shape r p (inr m)) inside)

  -- THE THEOREM
  pub by-paper : ByPaper r
  by-paper = record { associated = association-associated; niched = niching_procedure }
