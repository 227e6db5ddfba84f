-- DEMAND 3 of every accepted request from a pool of at least the size wanted: there is a line, and no value is a NaN. And the ideal that such a request's
-- selection leaves is good. And M-108 of every accepted request.
use Prim.Native.Nat.{ℕ, ◌≤◌, ◌<◌}
use mathlib.Core.Path.{◌≡◌, ap, ◌∙◌}
use mathlib.Core.Bool.{Bool, true, false}
use lib.Ieee.{is_nan}
use Rattle.model.specs.Association.{Request, objectives, line_count, value_of, dominance}
use Rattle.model.specs.Kept.{is_split, selected_split, selected_whole, by_split, selected}
use Rattle.model.specs.Refusal.{good_ideal}
use Rattle.model.specs.Demand3.{Demand3}
use Rattle.model.specs.Rules.{Ruled}
use Rattle.list_laws.proofs.Bools.{by_bool}
use Rattle.list_laws.proofs.Checks.{pool-plan, pool-ideal}
use Rattle.front_laws.proofs.Plans.{accepted_known, beats_strict}
use Rattle.reference_laws.proofs.Count.{lines-some}
use Rattle.front_laws.specs.Strict.{Strict}
use Rattle.association_laws.proofs.Good.{moved-good}
use Rattle.demand3_laws.specs.Facts.{Accepted}
use Rattle.demand3_laws.proofs.Passed.{some-objectives}
use Rattle.demand3_laws.proofs.Demand3.{demand3_strict}
use Rattle.demand3_laws.proofs.Rules.{ruled_strict}

module _ (r : Request) (accepted : Accepted r) where
  pub accepted-lines : 0 < line_count r
  accepted-lines = lines-some (objectives r) r.divisions (some-objectives r.marks accepted.directions).0

  values-real : (p j : ℕ) → p < r.count → j < objectives r → is_nan (value_of r p j) ≡ false
  values-real p j h k =
      accepted_known r.marks (objectives r) (r.plans p) (record { good = pool-plan r accepted.pool p h; whole = accepted.rows p h }) j k

  pub dominance_strict : Strict (dominance r) r.count
  dominance_strict = beats_strict r.marks r.plans r.count (λ p h j k. values-real p j h k)

  -- THE THEOREM, split or not
  pub demand3 : r.size ≤ r.count → Demand3 r (selected r).kept
  demand3 enough = demand3_strict r dominance_strict enough accepted-lines

  -- THEOREM (document 02, M-108): what the rules beside the kept list say, of a pool smaller than the size too
  pub ruled : Ruled r (selected r).kept (selected r).rules
  ruled = ruled_strict r dominance_strict accepted-lines

  -- THEOREM: refusal 8 lets the ideal pass that the selection leaves: where a front is split that which the pool moves, else the one that it starts from
  pub selected-ideal : good_ideal (objectives r) (selected r).ideal ≡ true
  unfolding selected selected_split selected_whole
  selected-ideal = by_bool (is_split r)
      (λ e. ap (λ (b : Bool). good_ideal (objectives r) (by_split b r).ideal) e ∙ moved-good r accepted.pool accepted.rows)
      (λ e. ap (λ (b : Bool). good_ideal (objectives r) (by_split b r).ideal) e ∙ pool-ideal r accepted.pool)
