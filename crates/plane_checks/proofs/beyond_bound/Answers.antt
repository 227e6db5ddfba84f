use Rattle.std.proofs.Common.{rules, ◌∙◌, refl, arith}
use Rattle.std.proofs.lemmas.Iterator.{YieldsList-from_range}
use Rattle.std.proofs.lemmas.Iterator.Search.{any_from_yields_List}
use Rattle.model.specs.Hyperplane.{beyond_row, beyond_bound}
use Rattle.hyperplane_laws.specs.Flat.{row_at, listed}
use Rattle.plane_checks.proofs.Any.{any-numbers}
use Rattle.plane_checks.proofs.beyond_bound.Goals as goal

pub returns : goal.returns
unfolding beyond_bound
returns c =
    let a = c.args in
    any_from_yields_List (λ p. beyond_row a.m (row_at a.rows.now a.m p) (listed a.ideal.now) a.x.now) _ _ c.any.result c.any.ensures.ran (YieldsList-from_range 0 (a.n) (a.n) refl (omega arith)) (λ x b q h. search rules)
    ∙ any-numbers _ (a.n)
