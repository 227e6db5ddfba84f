use Rattle.std.proofs.Common.{◌≡◌, arith}
use Rattle.model.specs.Load.{draw_plan}
use Rattle.load_draws.specs.Drawing.{plan_numbers, plans_numbers}
use Rattle.load_draws.proofs.Drawing.{draws_none, draws_more, plan_none, plan-more}
use Rattle.load_draws.proofs.put_plans.Goals as goal

pub loop-init : goal.loop-init
loop-init c = draws_none plans_numbers plan_numbers (λ j l. draw_plan c.args.m c.args.c) plan_none _ _ _

pub loop-preserved : goal.loop-preserved
loop-preserved c =
    let l = c.loop in
    draws_more plans_numbers plan_numbers (λ j l. draw_plan c.args.m c.args.c) plan-more l.counter _ _ _ l.out l.stand.at l.stand.rng.s _ _ _ l.invariant c.put_plan-stand.ensures

pub returns : goal.returns
returns c =
    let l = c.loop in
    let e : l.counter ≡ c.args.n = omega arith in
    rw (← e) l.invariant
