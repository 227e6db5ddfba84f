-- the greatest so far is that of the plans before p
use Rattle.std.proofs.Common.{◌≡◌}
use Rattle.association_laws.specs.Flat.{greatest_below}
use Rattle.normalization.proofs.greatest_of.Given as goal

abbrev pub invariant-loop-p : goal.invariant-loop-p
invariant-loop-p l = l.best ≡ greatest_below l.rows l.p l.m l.j
