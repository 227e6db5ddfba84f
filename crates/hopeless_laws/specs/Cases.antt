-- Document 02, M-112, computed: who shapes the scale of small pools, and who has a line.
use Rattle.std.specs.Prelude.{◌≡◌, [], ◌∷◌}
use Rattle.model.specs.declared.Edition.TheVariants.{Second}
use Rattle.model.specs.Real.{nought, half, unit}
use Rattle.model.specs.Association.{Request, in_edition, shapers}
use Rattle.model.specs.Kept.{without_line, selected}
use Rattle.model.specs.Cases.{three, four, plan_with, request_with}

-- (0,1), (1,0) and (0.5,0.5), of which two are wanted, and "a burst hose": (4,3), which breaks its constraint
unfoldable pub burst_hose : Request
burst_hose = request_with 2 2 (plan_with (nought ∷ unit ∷ []) []
    ∷ plan_with (unit ∷ nought ∷ []) []
    ∷ plan_with (half ∷ half ∷ []) []
    ∷ plan_with (four ∷ three ∷ []) (unit ∷ [])
    ∷ [])

-- one plan that keeps its constraint, and two that break theirs equally: these are the split front
unfoldable pub broken_front : Request
broken_front = request_with 1 2 (plan_with (nought ∷ nought ∷ []) [] ∷ plan_with (unit ∷ nought ∷ []) (unit ∷ []) ∷ plan_with (nought ∷ unit ∷ []) (unit ∷ []) ∷ [])

-- one plan is wanted, and one keeps its constraint: no front is split
unfoldable pub none_split : Request
none_split = request_with 1 1 (plan_with (nought ∷ nought ∷ []) [] ∷ plan_with (four ∷ three ∷ []) (unit ∷ []) ∷ [])

pub record Shaping : Type 0 where
  -- in edition 1 the burst hose shapes the scale and has a line, in edition 2 neither
  pub first : shapers burst_hose ≡ 0 ∷ 1 ∷ 2 ∷ 3 ∷ []
  pub second : shapers (in_edition Second burst_hose) ≡ 0 ∷ 1 ∷ 2 ∷ []
  pub first_lines : (selected burst_hose).lines ≡ 0 ∷ 2 ∷ 1 ∷ 1 ∷ []
  pub second_lines : (selected (in_edition Second burst_hose)).lines ≡ 0 ∷ 2 ∷ 1 ∷ without_line ∷ []
  -- "otherwise, and where no front is split, all come from the whole pool"
  pub broken : shapers (in_edition Second broken_front) ≡ 0 ∷ 1 ∷ 2 ∷ []
  pub unsplit : shapers (in_edition Second none_split) ≡ 0 ∷ 1 ∷ []
