-- Rules of small requests: a whole front and the nearest on an empty line, a plan drawn on a line that has one, and a padded list.
use Rattle.std.specs.Prelude.{◌≡◌, [], ◌∷◌}
use Rattle.model.specs.Real.{nought, unit}
use Rattle.model.specs.Association.{Request}
use Rattle.model.specs.Kept.{selected}
use Rattle.model.specs.Cases.{three, plan_with, request_with, example}

-- (0,0) and twice (1,3): all on line 0
unfoldable pub one_line : Request
one_line = request_with 1 2 (plan_with (nought ∷ nought ∷ []) [] ∷ plan_with (unit ∷ three ∷ []) [] ∷ plan_with (unit ∷ three ∷ []) [] ∷ [])

-- one plan, and three wanted
unfoldable pub one_plan : Request
one_plan = request_with 1 3 (plan_with (nought ∷ nought ∷ []) [] ∷ [])

pub record RuleCases : Type 0 where
  -- document 01's example: front 0 whole, then plan 2, the nearest on line 1
  pub nearest : (selected example).rules ≡ 0 ∷ 1 ∷ []
  pub drawn : (selected one_line).rules ≡ 0 ∷ 2 ∷ []
  pub padded : (selected one_plan).rules ≡ 0 ∷ 3 ∷ 3 ∷ []
