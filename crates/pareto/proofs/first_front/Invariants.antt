-- the numbers picked so far stand at the front of the order
use Rattle.std.proofs.Common.{◌≤◌, get_or}
use lib.Dec.{eqb}
use Rattle.list_laws.specs.Put.{Picked}
use Rattle.pareto.proofs.first_front.Given as goal

abbrev pub invariant-loop-q : goal.invariant-loop-q
invariant-loop-q l = record {
  few : l.len ≤ l.q;
  picked : Picked (λ t. eqb (get_or l.counts t 0) 0) l.initial.order 0 l.q l.order l.len;
}
