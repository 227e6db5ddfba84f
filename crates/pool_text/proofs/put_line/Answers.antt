-- `put_line`: the dash for "no line", else the number.
use mathlib.Core.Path.{ap, sym}
use mathlib.Core.List.{List}
use Rattle.pool_laws.specs.Text.{ended}
use Rattle.list_laws.proofs.Stores.{put_as}
use Rattle.pool_laws.proofs.Decimals.{line_none, line-some}
use Rattle.pool_text.proofs.put_line.Goals as goal

pub put_bytes-requires : goal.put_bytes-requires
put_bytes-requires c =
    rw (line_none c.args.l c.if-l-eq-NO_LINE.true) at c.requires

pub returns-then-l-eq-NO_LINE : goal.returns-then-l-eq-NO_LINE
returns-then-l-eq-NO_LINE c =
    put_as _ _ _ _ _ _ (ap (λ (t : List _). ended t 32) (sym (line_none c.args.l c.if-l-eq-NO_LINE.true))) c.put_bytes.ensures

pub put_number-requires : goal.put_number-requires
put_number-requires c =
    rw (line-some c.args.l c.if-l-eq-NO_LINE.false) at c.requires

pub returns-else-l-eq-NO_LINE : goal.returns-else-l-eq-NO_LINE
returns-else-l-eq-NO_LINE c =
    put_as _ _ _ _ _ _ (ap (λ (t : List _). ended t 32) (sym (line-some c.args.l c.if-l-eq-NO_LINE.false))) c.put_number.ensures
