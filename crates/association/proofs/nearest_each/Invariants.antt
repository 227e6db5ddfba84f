-- the plans before p have their line and distance
use Rattle.association_laws.specs.Flat.{NearestAll}
use Rattle.association.proofs.nearest_each.Given as goal

abbrev pub invariant-loop-p : goal.invariant-loop-p
invariant-loop-p l = NearestAll l.edition l.normalized l.m l.table l.n_lines l.p l.fn.lines l.lines l.fn.distances l.distances
