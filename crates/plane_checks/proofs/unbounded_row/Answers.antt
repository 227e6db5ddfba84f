use Rattle.std.proofs.Common.{rules, ◌∙◌, refl, arith}
use Rattle.std.proofs.lemmas.Iterator.{YieldsList-from_range}
use Rattle.std.proofs.lemmas.Iterator.Search.{any_from_yields_List}
use Rattle.std.specs.Float.{float_is_finite}
use Rattle.list_laws.proofs.Tests.{any_below-same}
use Rattle.std.proofs.Common.{not, ◌+◌}
use Rattle.model.specs.Hyperplane.{entry, unbounded_row}
use Rattle.plane_checks.proofs.Any.{any-numbers, finite-is}
use Rattle.plane_checks.proofs.unbounded_row.Goals as goal

pub returns : goal.returns
unfolding unbounded_row
returns c =
    let a = c.args in
    any_from_yields_List (λ j. not (float_is_finite (entry a.a.now a.i j))) _ _ c.any.result c.any.ensures.ran (YieldsList-from_range 0 (a.m + 1) (a.m + 1) refl (omega arith)) (λ x b q h. search rules)
    ∙ any-numbers _ (a.m + 1) ∙ any_below-same _ _ (a.m + 1) (λ j u. finite-is (entry a.a.now a.i j))
