use Rattle.std.proofs.Common.{rules, ◌∙◌, not, take}
use Rattle.std.proofs.lemmas.Iterator.{YieldsList-from_slice}
use Rattle.std.proofs.lemmas.Iterator.Search.{any_from_yields_List}
use lib.Ieee.{nan, lt, of_bits}
use Rattle.model.specs.Real.{small_span}
use Rattle.model.specs.Hyperplane.{low_intercept}
use Rattle.plane_checks.proofs.Any.{any-front}
use Rattle.plane_checks.proofs.low_intercept.Goals as goal

pub returns : goal.returns
unfolding low_intercept of_bits
returns c =
    let a = c.args in
    any_from_yields_List (λ v. not (lt small_span v)) _ _ c.any.result c.any.ensures.ran (YieldsList-from_slice (take a.m a.x.now) (search rules)) (λ x b q h. search rules)
    ∙ any-front _ nan a.x.now a.m c.requires
