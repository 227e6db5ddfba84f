-- `first` says whether row p is better before column j, `second` whether row q is
use Rattle.std.proofs.Common.{◌≡◌}
use lib.Ieee.{lt}
use Rattle.model.specs.Lists.{any_below}
use Rattle.front_laws.specs.Flat.{row_at}
use Rattle.dominator_counts.proofs.compare_rows.Given as goal

abbrev pub invariant-loop-j : goal.invariant-loop-j
invariant-loop-j l = record {
  first : l.first ≡ any_below (λ k. lt (row_at l.rows l.m l.p k) (row_at l.rows l.m l.q k)) l.j;
  second : l.second ≡ any_below (λ k. lt (row_at l.rows l.m l.q k) (row_at l.rows l.m l.p k)) l.j;
}
