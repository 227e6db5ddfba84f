-- no value before column j is worse, and `better` says whether one is better
use Rattle.std.proofs.Common.{◌≡◌, false}
use lib.Ieee.{lt}
use Rattle.model.specs.Lists.{any_below}
use Rattle.front_laws.specs.Flat.{row_at}
use Rattle.domination.proofs.dominates.Given as goal

abbrev pub invariant-loop-j : goal.invariant-loop-j
invariant-loop-j l = record {
  worse : any_below (λ k. lt (row_at l.rows l.m l.q k) (row_at l.rows l.m l.p k)) l.j ≡ false;
  better : l.better ≡ any_below (λ k. lt (row_at l.rows l.m l.p k) (row_at l.rows l.m l.q k)) l.j;
}
