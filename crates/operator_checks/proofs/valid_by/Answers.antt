-- The tests are those of the definition; plus infinity is 1 / 0.
use Rattle.std.proofs.Common.{sym, ◌∙◌}
use lib.Ieee.{div, of_bits}
use Rattle.model.specs.Setting.{valid_float_step}
use Rattle.operator_checks.proofs.valid_by.Goals as goal
use Rattle.operator_checks.proofs.valid_by.Goals.{then-by, else-by}

pub returns-then-by-2 : goal.returns-then-by-2
unfolding valid_float_step div of_bits
returns-then-by-2 c = elim c.if-by.branch [
  | then-by w ↦ rw (w.if-by.true, sym w.value-is ∙ c.if-by-2.true)
  | else-by w ↦ cc
]

pub returns-else-by-2 : goal.returns-else-by-2
unfolding valid_float_step div of_bits
returns-else-by-2 c = elim c.if-by.branch [
  | then-by w ↦ rw (w.if-by.true, sym w.value-is ∙ c.if-by-2.false, c.if-by-2.false)
  | else-by w ↦ w.value-is ∙ rw w.if-by.false
]
