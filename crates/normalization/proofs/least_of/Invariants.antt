-- the least so far is that of the plans before p
use Rattle.std.proofs.Common.{◌≡◌}
use Rattle.association_laws.specs.Flat.{least_below}
use Rattle.normalization.proofs.least_of.Given as goal

abbrev pub invariant-loop-p : goal.invariant-loop-p
invariant-loop-p l = l.least ≡ least_below l.start l.rows l.p l.m l.j
