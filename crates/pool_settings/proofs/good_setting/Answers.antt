use Rattle.std.proofs.Common.{sym, ◌∙◌}
use borrow.Author.Tests.{ne_eqb, lt-leb}
use Rattle.pool_settings.proofs.Ints.{kind-past, an_int, no_int}
use Rattle.pool_settings.proofs.good_setting.Goals as goal

pub returns-then-kind-ne-INT : goal.returns-then-kind-ne-INT
returns-then-kind-ne-INT c param = rw (ne_eqb c.args.kind 1 c.if-kind-ne-INT.true) (sym (no_int param _ _ c.if-kind-le-CATEGORICAL.true c.if-kind-ne-INT.true))

pub returns-else-kind-ne-INT : goal.returns-else-kind-ne-INT
returns-else-kind-ne-INT c param = sym (an_int param _ _ c.if-kind-ne-INT.false)

pub returns-else-kind-le-CATEGORICAL : goal.returns-else-kind-le-CATEGORICAL
returns-else-kind-le-CATEGORICAL c param =
    lt-leb c.args.kind 2 c.if-kind-le-CATEGORICAL.false ∙ sym (kind-past param _ _ c.if-kind-le-CATEGORICAL.false)
