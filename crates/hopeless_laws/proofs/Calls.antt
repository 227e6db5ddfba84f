-- THEOREMS (document 02, M-112), of what `nsga3_select` and `nsga3_generate_offspring` hand out: two calls that are not refused, on pools that differ only in the rows of
-- infeasible plans, with a feasible split front and the same lent slices, leave the same answer, ideal and slices.
use Prim.Native.Nat.{ℕ, ◌<◌}
use mathlib.Core.Path.{◌≡◌, ap, sym, ◌∙◌}
use mathlib.Core.List.{List}
use Rattle.std.specs.Prelude.{None, Ok}
use lib.ListN.{length}
use Rattle.model.specs.Association.{Request}
use Rattle.model.specs.Kept.{Selected, selected}
use Rattle.model.specs.Setting.{Operators, Generation}
use Rattle.model.specs.Refusal.{select_refusal, step_refusal}
use Rattle.model.specs.Calls.{Lent, room_of, SelectExit, select_exit, answered, laid, select_accepted, select_by, select_of, Selects, StepExit, generation_exit, step_accepted, step_by, step_of, Steps}
use Rattle.front_laws.proofs.Plans.{InWords}
use Rattle.demand3_laws.proofs.Calls.{select_accepted_lem, step-accepted}
use Rattle.hopeless_laws.specs.Hopeless.{HopelessRows}
use Rattle.hopeless_laws.proofs.Hopeless.{hopeless, hopeless_generation}

module _ (r s : Request) (h : HopelessRows r s) (entry : Lent) (e : select_refusal r (room_of entry) ≡ None) (k : select_refusal s (room_of entry) ≡ None) where
  -- the plans lie in words
  module _ (words : (p : ℕ) → InWords (r.plans p)) where
    accepted-same : select_accepted r entry ≡ select_accepted s entry
    unfolding select_accepted
    accepted-same = ap (λ (sel : Selected). select_exit (answered (Ok (length sel.kept)) sel.state) sel.ideal (laid sel entry))
        (hopeless r s h (select_accepted_lem r words (room_of entry) e))

    exit-same : select_of r entry ≡ select_of s entry
    unfolding select_of
    exit-same = ap (λ o. select_by o r entry) e ∙ accepted-same ∙ sym (ap (λ o. select_by o s entry) k)

    -- THE THEOREM
    pub hopeless_calls : (x y : SelectExit) → Selects r entry x → Selects s entry y → x ≡ y
    hopeless_calls x y a b = a.whole ∙ exit-same ∙ sym b.whole

-- ---- `nsga3_generate_offspring`, on pools with the same settings

module _ (r s : Request) (h : HopelessRows r s) (settings : (p : ℕ) → p < r.count → (s.plans p).settings ≡ (r.plans p).settings) (words : (p : ℕ) → InWords (r.plans p))
    (o : Operators) (entry : Lent) (offspring : List ℕ) (e : step_refusal o r (room_of entry) (length offspring) ≡ None)
    (k : step_refusal o s (room_of entry) (length offspring) ≡ None) where
  step_same : step_of o r entry offspring ≡ step_of o s entry offspring
  unfolding step_of step_accepted
  step_same =
      ap (λ n. step_by n o r entry offspring) e
      ∙ ap (λ (g : Generation). generation_exit g entry offspring) (hopeless_generation r s h (step-accepted r words o (room_of entry) (length offspring) e) settings o)
      ∙ sym (ap (λ n. step_by n o s entry offspring) k)

  -- THE THEOREM
  pub hopeless_steps : (x y : StepExit) → Steps o r entry offspring x → Steps o s entry offspring y → x ≡ y
  hopeless_steps x y a b = a.whole ∙ step_same ∙ sym b.whole
