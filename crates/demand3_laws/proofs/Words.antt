-- A call on a pool of words that meets no refusal: every normalised value of a plan that shapes the scale lies within 0 and the edition's bound, and its association and niching are the paper's.
use Prim.Native.Nat.{ℕ, ◌+◌, ◌*◌, ◌<◌}
use mathlib.Core.Path.{◌≡◌, sym, subst}
use mathlib.Core.List.{List}
use Rattle.std.specs.Prelude.{None}
use lib.Dec.{T}
use lib.Ieee.{nan, binary64, fits}
use lib.ListN.{get_or}
use Rattle.model.specs.Plan.{plan_at, plan_words}
use Rattle.model.specs.Association.{Request, objectives}
use Rattle.model.specs.Setting.{Operators}
use Rattle.model.specs.Refusal.{Room, select_refusal, step_refusal}
use Rattle.front_laws.proofs.Plans.{InWords}
use Rattle.association_laws.specs.Measurable.{Measurable}
use Rattle.association_laws.proofs.Good.{measured-words}
use Rattle.demand3_laws.specs.Facts.{Accepted}
use Rattle.demand3_laws.specs.Paper.{Scaled, ByPaper}
use Rattle.demand3_laws.proofs.Passed.{some-objectives}
use Rattle.demand3_laws.proofs.Calls.{plan_at-row, select_accepted_lem, step-accepted}
use Rattle.demand3_laws.proofs.Paper.{scaled, by-paper}

-- the plans lie in a slice of words, and the ideal's entries are doubles, as those of every slice of f64 are
module _ (r : Request) (words : List ℕ) (same : (p : ℕ) → r.plans p ≡ plan_at words p)
    (held : (j : ℕ) → j < objectives r → T (fits binary64 (get_or r.ideal j nan))) where
  in_slice : (p : ℕ) → InWords (r.plans p)
  in_slice p = subst InWords (sym (same p)) (plan_at-row words p)

  measured : Accepted r → Measurable r
  measured a =
      measured-words r (λ p j. get_or words (p * plan_words + j) 0) same (some-objectives r.marks a.directions).1 a.pool held

  -- ---- `nsga3_select`
  module _ (room : Room) (e : select_refusal r room ≡ None) where
    pub select_scaled : Scaled r
    select_scaled = scaled r (measured (select_accepted_lem r in_slice room e))

    pub select_by-paper : ByPaper r
    select_by-paper = let a = select_accepted_lem r in_slice room e in by-paper r a (measured a)

  -- ---- `nsga3_generate_offspring`
  module _ (o : Operators) (room : Room) (offspring : ℕ) (e : step_refusal o r room offspring ≡ None) where
    pub step_scaled : Scaled r
    step_scaled = scaled r (measured (step-accepted r in_slice o room offspring e))

    pub step-by-paper : ByPaper r
    step-by-paper = let a = step-accepted r in_slice o room offspring e in by-paper r a (measured a)
