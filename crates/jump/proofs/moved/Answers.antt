-- One binary digit, by its two cases.
use Rattle.std.proofs.Common.{◌%◌, sym, ◌∙◌, arith}
use Rattle.jump_laws.proofs.Digits.{moved-one, moved_none}
use Rattle.jump.proofs.moved.Goals as goal

pub returns-then-left-eq1 : goal.returns-then-left-eq1
returns-then-left-eq1 c = let a = c.args in c.applied.ensures ∙ sym (moved-one a.a a.c a.s (a.left % 2) (omega arith))

pub returns-else-left-eq1 : goal.returns-else-left-eq1
returns-else-left-eq1 c = let a = c.args in sym (moved_none a.a a.c a.s (a.left % 2) (λ e. omega arith))
