-- the rows at the first i places are laid
use Rattle.std.proofs.Common.{◌≡◌, get_or}
use Rattle.model.specs.Lists.{over}
use Rattle.list_laws.specs.Rows.{flat_rows}
use Rattle.front_laws.specs.Flat.{row_at}
use Rattle.shaper_rows.proofs.gather_rows.Given as goal

abbrev pub invariant-loop-i : goal.invariant-loop-i
invariant-loop-i l = l.out ≡ over (flat_rows (λ t. row_at l.rows l.m (get_or l.places t 0)) l.i l.m) l.initial.out
