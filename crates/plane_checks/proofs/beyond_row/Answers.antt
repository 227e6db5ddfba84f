use Rattle.std.proofs.Common.{rules, ◌∙◌, refl, arith}
use Rattle.std.proofs.lemmas.Iterator.{YieldsList-from_range}
use Rattle.std.proofs.lemmas.Iterator.Search.{any_from_yields_List}
use Rattle.std.proofs.Common.{get_or}
use lib.Ieee.{nan, lt, of_bits}
use Rattle.model.specs.Real.{◌⊖◌, ◌⊘◌}
use Rattle.model.specs.Hyperplane.{bound, beyond_row}
use Rattle.hyperplane_laws.specs.Flat.{row_at, listed}
use Rattle.plane_checks.proofs.Any.{any-numbers}
use Rattle.plane_checks.proofs.beyond_row.Goals as goal

pub returns : goal.returns
unfolding beyond_row of_bits
returns c =
    let a = c.args in
    any_from_yields_List (λ j. lt bound ((row_at a.rows.now a.m a.p j ⊖ listed a.ideal.now j) ⊘ get_or a.x.now j nan)) _ _ c.any.result c.any.ensures.ran (YieldsList-from_range 0 (a.m) (a.m) refl (omega arith)) (λ x b q h. search rules)
    ∙ any-numbers _ (a.m)
