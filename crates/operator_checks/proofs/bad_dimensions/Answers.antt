-- One test, then the other.
use Rattle.std.proofs.Common.{sym, ◌∙◌}
use Rattle.settings.proofs.Valid.{few-bounds, bad-by-bounds, bad-by_steps}
use Rattle.operator_checks.proofs.bad_dimensions.Goals as goal

pub bad_steps-requires : goal.bad_steps-requires
bad_steps-requires c = few-bounds _ _ (sym c.bad_bounds.ensures ∙ c.if-bad_bounds.false)

pub returns-then-bad_bounds : goal.returns-then-bad_bounds
returns-then-bad_bounds c = c.if-bad_bounds.true ∙ bad-by-bounds _ _ (sym c.bad_bounds.ensures ∙ c.if-bad_bounds.true)

pub returns-else-bad_bounds : goal.returns-else-bad_bounds
returns-else-bad_bounds c = c.bad_steps.ensures ∙ bad-by_steps _ _ (sym c.bad_bounds.ensures ∙ c.if-bad_bounds.false)
