-- the children of the plans before i are gathered
use Rattle.std.proofs.Common.{◌≡◌, length}
use Rattle.model.specs.Lists.{over}
use Rattle.model.specs.Session.{numbers_of, children_of}
use Rattle.session_records.proofs.gather.Given as goal

abbrev pub invariant-loop-i : goal.invariant-loop-i
invariant-loop-i l = record {
  laid : l.to ≡ over (children_of (numbers_of l.pool l.n_waiting) l.history l.plans l.i) l.initial.to;
  behind : l.at ≡ length (children_of (numbers_of l.pool l.n_waiting) l.history l.plans l.i);
}
