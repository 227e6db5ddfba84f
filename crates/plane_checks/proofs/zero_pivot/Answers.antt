use Rattle.std.proofs.Common.{rules, ◌∙◌, refl, arith}
use Rattle.std.proofs.lemmas.Iterator.{YieldsList-from_range}
use Rattle.std.proofs.lemmas.Iterator.Search.{any_from_yields_List}
use lib.Ieee.{eq, of_bits}
use Rattle.model.specs.Real.{nought}
use Rattle.model.specs.Hyperplane.{entry, zero_pivot}
use Rattle.plane_checks.proofs.Any.{any-numbers}
use Rattle.plane_checks.proofs.zero_pivot.Goals as goal

pub returns : goal.returns
unfolding zero_pivot of_bits
returns c =
    let a = c.args in
    any_from_yields_List (λ k. eq (entry a.a.now k k) nought) _ _ c.any.result c.any.ensures.ran (YieldsList-from_range 0 (a.m) (a.m) refl (omega arith)) (λ x b q h. search rules)
    ∙ any-numbers _ (a.m)
