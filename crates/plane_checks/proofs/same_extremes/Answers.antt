use Rattle.std.proofs.Common.{rules, ◌∙◌, refl, arith}
use Rattle.std.proofs.lemmas.Iterator.{YieldsList-from_range}
use Rattle.std.proofs.lemmas.Iterator.Search.{any_from_yields_List}
use Rattle.model.specs.Hyperplane.{same_before, same_extremes}
use Rattle.plane_checks.proofs.Any.{any-numbers}
use Rattle.plane_checks.proofs.same_extremes.Goals as goal

pub returns : goal.returns
unfolding same_extremes
returns c =
    let a = c.args in
    any_from_yields_List (same_before a.extremes.now) _ _ c.any.result c.any.ensures.ran (YieldsList-from_range 0 (a.m) (a.m) refl (omega arith)) (λ x b q h. search rules)
    ∙ any-numbers _ (a.m)
