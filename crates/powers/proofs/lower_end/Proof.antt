-- The invariant: the pattern is no further up than b. It falls with each turn.
use Prim.Native.Nat.{◌≤◌}
use native.Mathlib.Omega.{arith}
use Rattle.real_laws.specs.Parting.{Top}
use Rattle.real_laws.proofs.Parting.{test_of, raised, first_ends}
use Rattle.powers.proofs.lower_end.Statement.{statement}
use Rattle.powers.proofs.lower_end.Tie as tie

abbrev invariant_loop : tie.invariant-loop-step
invariant_loop v k b at₀ step₀ at step = (at ≤ b) × (1 ≤ step)

abbrev decreases_loop : tie.decreases-loop-step
decreases_loop v k b at₀ step₀ at step = at

loop-holds : tie.Need-loop-step-init invariant_loop decreases_loop
loop-holds c = omega arith

real-of-word-requires : tie.Need-real_of_word-requires invariant_loop decreases_loop
real-of-word-requires c κs = tt

power-requires : tie.Need-power-requires invariant_loop decreases_loop
power-requires c κs = tt

returns : tie.Need-returns-then-power-v invariant_loop decreases_loop
returns c =
    let l = c.loop-step in
    let a = c.args in
    (omega arith, raised a.v a.k 0 Top l.at (first_ends a.v a.k) (test_of a.v a.k _ _ l.at _ c.real_of_word.ensures c.power.ensures c.if-power-v.true))

mul-step : tie.Need-overflow_mul-step invariant_loop decreases_loop
mul-step c = omega arith

loop-less : tie.Need-loop-step-smaller invariant_loop decreases_loop
loop-less c = omega arith

loop-again : tie.Need-loop-step-preserved invariant_loop decreases_loop
loop-again c = omega arith

returns-2 : tie.Need-returns invariant_loop decreases_loop
returns-2 c =
    let s = c.before.before in
    (omega arith, first_ends s.args.v s.args.k)

pub lower_end_spec : {M : Type 1} → statement M
lower_end_spec =
    tie.close
    (tie.spec
    invariant_loop
    decreases_loop
    loop-holds
    real-of-word-requires
    power-requires
    returns
    mul-step
    loop-less
    loop-again
    returns-2)
