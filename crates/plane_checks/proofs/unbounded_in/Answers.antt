use Rattle.std.proofs.Common.{rules, ◌∙◌, not, get_or, take}
use Rattle.std.proofs.lemmas.Iterator.{YieldsList-from_slice}
use Rattle.std.proofs.lemmas.Iterator.Search.{any_from_yields_List}
use lib.Ieee.{nan}
use Rattle.std.specs.Float.{float_is_finite}
use Rattle.list_laws.proofs.Tests.{any_below-same}
use Rattle.model.specs.Hyperplane.{unbounded_in}
use Rattle.plane_checks.proofs.Any.{any-front, finite-is}
use Rattle.plane_checks.proofs.unbounded_in.Goals as goal

pub returns : goal.returns
unfolding unbounded_in
returns c =
    let a = c.args in
    any_from_yields_List (λ v. not (float_is_finite v)) _ _ c.any.result c.any.ensures.ran (YieldsList-from_slice (take a.m a.x.now) (search rules)) (λ x b q h. search rules)
    ∙ any-front _ nan a.x.now a.m c.requires ∙ any_below-same _ _ a.m (λ j u. finite-is (get_or a.x.now j nan))
