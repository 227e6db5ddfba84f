-- the best so far is the greatest before j
use Rattle.std.proofs.Common.{◌≡◌, true}
use lib.Ieee.{inf}
use Rattle.model.specs.Lists.{best_from}
use Rattle.model.specs.Real.{◌⊖◌, ◌⊘◌, above}
use Rattle.model.specs.Hyperplane.{weight}
use Rattle.hyperplane_laws.specs.Flat.{row_at, listed}
use Rattle.extremes.proofs.achievement.Given as goal

abbrev pub invariant-loop-j : goal.invariant-loop-j
invariant-loop-j l = l.best ≡ best_from above (inf true) (λ j. (row_at l.rows l.m l.p j ⊖ listed l.ideal j) ⊘ weight l.i j) l.j
