-- the first i are drawn and written
use mathlib.Core.List.{map}
use Rattle.model.specs.Real.{bits}
use Rattle.load_draws.specs.Drawing.{draw_some, Draws}
use Rattle.load_draws.proofs.put_some.Given as goal

abbrev pub invariant-loop : goal.invariant-loop
invariant-loop l = Draws (map bits) (draw_some l.lowered l.counter l.initial.stand.rng.s) l.initial.out l.initial.stand.at l.out l.stand.at l.stand.rng.s
