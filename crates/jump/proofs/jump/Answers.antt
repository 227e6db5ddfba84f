use Rattle.std.proofs.Common.{◌≡◌, subst, arith}
use Rattle.jump_laws.specs.Steps.{mul_at, add_at, Passed}
use Rattle.jump_laws.proofs.Digits.{none_passed, digit_passed, all_passed}
use Rattle.jump.proofs.jump.Goals as goal

pub loop-i-init : goal.loop-i-init
unfolding mul_at add_at
loop-i-init c = none_passed _ _

pub loop-i-preserved : goal.loop-i-preserved
loop-i-preserved c =
    let l = c.loop-i in
    digit_passed c.args.k c.args.rng.s l._i l.left l.a l.c l.s l.invariant
    c.wrapping_mul_u64-a.result c.applied-c.result c.moved-s.result
    c.wrapping_mul_u64-a.ensures c.applied-c.ensures c.moved-s.ensures

pub returns : goal.returns
returns c =
    let l = c.loop-i in
    let e : l._i ≡ 64 = omega arith in
    all_passed c.args.k c.args.rng.s l.left l.a l.c l.s (omega arith)
    (subst (λ i. Passed c.args.k c.args.rng.s i l.left l.a l.c l.s) e l.invariant)
