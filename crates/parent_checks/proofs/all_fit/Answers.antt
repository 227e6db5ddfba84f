use Rattle.std.proofs.Common.{sym, ◌∙◌, arith}
use Rattle.list_laws.proofs.Tests.{all_below_no}
use Rattle.parent_checks.proofs.all_fit.Goals as goal

pub returns-then-not-fits_at : goal.returns-then-not-fits_at
returns-then-not-fits_at c = sym (all_below_no _ _ c.loop-i.i (omega arith) (sym c.fits_at.ensures ∙ c.if-not-fits_at.true))
