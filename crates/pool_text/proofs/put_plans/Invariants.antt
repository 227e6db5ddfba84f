-- the first p lines are put
use Rattle.model.specs.Lists.{join_below}
use Rattle.list_laws.specs.Put.{Put}
use Rattle.pool_laws.specs.Text.{fields_of}
use Rattle.pool_text.proofs.put_plans.Given as goal

abbrev pub invariant-loop-p : goal.invariant-loop-p
invariant-loop-p l = Put l.initial.out l.at (join_below (fields_of l.fronts l.lines l.places) l.p) l.out l.r
