-- The count first, then the numbers, then each dimension.
use Rattle.std.proofs.Common.{List, refl, sym, ap, ◌∙◌, arith}
use Rattle.model.specs.Lists.{all_below}
use Rattle.model.specs.Plan.{Setting}
use Rattle.model.specs.Setting.{dimensions_of}
use Rattle.model.specs.Refusal.{fits_at}
use Rattle.list_laws.proofs.Bools.{past, and_not}
use Rattle.extraction.proofs.Extracting.{breedable-many, breedable_is}
use Rattle.parent_checks.proofs.breedable.Goals as goal

pub returns-then-count-gt-MAX_SETTINGS : goal.returns-then-count-gt-MAX_SETTINGS
returns-then-count-gt-MAX_SETTINGS c = let a = c.args in sym (breedable-many (dimensions_of a.dims) a.n a.pool.now a.i (omega arith))

pub returns-then-not-named_once : goal.returns-then-not-named_once
returns-then-not-named_once c =
    let a = c.args in
    sym (breedable_is (dimensions_of a.dims) a.n a.pool.now a.i c.if-count-gt-MAX_SETTINGS.false ∙ and_not _ _ (sym c.named_once.ensures ∙ c.if-not-named_once.true))

pub returns : goal.returns
returns c =
    let a = c.args in
    c.all_fit.ensures ∙ ap (λ (l : List Setting). all_below (fits_at (dimensions_of a.dims) l) a.n) c.sort_by_param-sorted.ensures
    ∙ sym (breedable_is (dimensions_of a.dims) a.n a.pool.now a.i c.if-count-gt-MAX_SETTINGS.false ∙ past (sym c.named_once.ensures ∙ c.if-not-named_once.false) refl)
