-- the parents of the first i kept plans are laid
use Rattle.std.proofs.Common.{◌*◌, take}
use Rattle.model.specs.Plan.{plan_at}
use Rattle.model.specs.Draw.{draw_all}
use Rattle.model.specs.Setting.{dimensions_of, parent_in}
use Rattle.candidates.proofs.Laid.{LaidOut}
use Rattle.offspring.proofs.fill_parents.Given as goal

abbrev pub invariant-loop-i : goal.invariant-loop-i
invariant-loop-i l = LaidOut l.initial.parents (l.i * l.n) (draw_all (parent_in (dimensions_of l.dims) l.n (plan_at l.pool) (take l.count l.kept)) l.i l.initial.rng.s) l.parents l.rng.s
