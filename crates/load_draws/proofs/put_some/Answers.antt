use Rattle.std.proofs.Common.{◌≡◌, refl, arith}
use mathlib.Core.List.{map}
use Rattle.model.specs.Real.{bits}
use Rattle.load_draws.specs.Drawing.{draw_one, real_numbers}
use Rattle.load_draws.proofs.Drawing.{draws_none, draws_more, real-more}
use Rattle.load_draws.proofs.put_some.Goals as goal

pub loop-init : goal.loop-init
loop-init c = draws_none (map bits) real_numbers (λ j l. draw_one c.args.lowered) refl _ _ _

pub loop-preserved : goal.loop-preserved
loop-preserved c =
    let l = c.loop in
    draws_more (map bits) real_numbers (λ j l. draw_one c.args.lowered) real-more l.counter _ _ _ l.out l.stand.at l.stand.rng.s _ _ _ l.invariant c.put_one-stand.ensures

pub returns : goal.returns
returns c =
    let l = c.loop in
    let e : l.counter ≡ c.args.n = omega arith in
    rw (← e) l.invariant
