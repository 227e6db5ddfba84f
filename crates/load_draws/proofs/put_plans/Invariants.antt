-- the first i are drawn and written
use Rattle.load_draws.specs.Drawing.{draw_many, plans_numbers, Draws}
use Rattle.load_draws.proofs.put_plans.Given as goal

abbrev pub invariant-loop : goal.invariant-loop
invariant-loop l = Draws plans_numbers (draw_many l.m l.c l.counter l.initial.stand.rng.s) l.initial.out l.initial.stand.at l.out l.stand.at l.stand.rng.s
