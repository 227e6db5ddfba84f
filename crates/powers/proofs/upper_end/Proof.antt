-- The invariant: the pattern is beyond b, up to that of 2^52. It rises with each turn.
use Prim.Native.Nat.{◌-◌, ◌*◌, ◌≤◌, ◌<◌}
use native.Mathlib.Omega.{arith}
use Rattle.real_laws.specs.Parting.{Top}
use Rattle.real_laws.proofs.Parting.{test_of, lowered}
use Rattle.powers.proofs.upper_end.Statement.{statement}
use Rattle.powers.proofs.upper_end.Tie as tie

abbrev invariant_loop : tie.invariant-loop-at
invariant_loop v k b at₀ step₀ at step = (b < at) × (at ≤ Top) × (1 ≤ step) × (step ≤ 2 * Top)

abbrev decreases_loop : tie.decreases-loop-at
decreases_loop v k b at₀ step₀ at step = Top - at

add_at : tie.Need-overflow_add-at invariant_loop decreases_loop
add_at c = omega arith

loop-holds : tie.Need-loop-at-init invariant_loop decreases_loop
loop-holds c = omega arith

add-loop : tie.Need-overflow_add-at-in-loop-at invariant_loop decreases_loop
add-loop c = omega arith

real-of-word-requires : tie.Need-real_of_word-requires invariant_loop decreases_loop
real-of-word-requires c κs = tt

power-requires : tie.Need-power-requires invariant_loop decreases_loop
power-requires c κs = tt

add-at-2 : tie.Need-overflow_add-at-then-power-v invariant_loop decreases_loop
add-at-2 c = omega arith

mul-step : tie.Need-overflow_mul-step invariant_loop decreases_loop
mul-step c = omega arith

loop-less : tie.Need-loop-at-smaller invariant_loop decreases_loop
loop-less c = omega arith

loop-again : tie.Need-loop-at-preserved invariant_loop decreases_loop
loop-again c = omega arith

returns : tie.Need-returns-else-power-v invariant_loop decreases_loop
returns c =
    let l = c.loop-at in
    let s = c.before.before.before.before.before in
    let a = s.args in
    (omega arith, omega arith, lowered a.v a.k a.b Top l.at s.requires.1 (test_of a.v a.k _ _ l.at _ c.real_of_word.ensures c.power.ensures c.if-power-v.false))

returns-2 : tie.Need-returns invariant_loop decreases_loop
returns-2 c =
    (omega arith, omega arith, c.requires.1)

pub upper_end_spec : {M : Type 1} → statement M
upper_end_spec =
    tie.close
    (tie.spec
    invariant_loop
    decreases_loop
    add_at
    loop-holds
    add-loop
    real-of-word-requires
    power-requires
    add-at-2
    mul-step
    loop-less
    loop-again
    returns
    returns-2)
