-- Past the settings there is nothing to ask.
use Rattle.std.proofs.Common.{sym, ◌∙◌, le-leb}
use Rattle.extraction.proofs.Extracting.{fits-past, fits-here}
use Rattle.model.specs.Setting.{dimensions_of}
use Rattle.parent_checks.proofs.fits_at.Goals as goal

pub returns-then-count-i : goal.returns-then-count-i
returns-then-count-i c = le-leb _ _ c.if-count-i.true ∙ sym (fits-past _ _ _ _ c.if-count-i.true)

pub returns-else-count-i : goal.returns-else-count-i
returns-else-count-i c =
    let a = c.args in
    c.fits_dimension.ensures ∙ sym (fits-here (dimensions_of a.dims) a.sorted a.count a.i c.if-count-i.false)
