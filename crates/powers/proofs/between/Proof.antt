-- The invariant: the ends are in order and part v. The measure is what lies between them.
use Prim.Native.Nat.{◌+◌, ◌-◌, ◌/◌, ◌≤◌, ◌<◌}
use native.Mathlib.Omega.{arith}
use Rattle.real_laws.specs.Parting.{Top, Parted}
use Rattle.real_laws.proofs.Parting.{test_of, raised, lowered, neighbours_part}
use Rattle.powers.proofs.between.Statement.{statement}
use Rattle.powers.proofs.between.Tie as tie

abbrev invariant_loop : tie.invariant-loop-lower
invariant_loop v k a b lower₀ upper₀ lower upper = (lower < upper) × (upper ≤ Top) × Parted v k lower upper

abbrev decreases_loop : tie.decreases-loop-lower
decreases_loop v k a b lower₀ upper₀ lower upper = upper - lower

loop-holds : tie.Need-loop-lower-init invariant_loop decreases_loop
loop-holds c = c.requires

add-loop : tie.Need-overflow_add-lower invariant_loop decreases_loop
add-loop c = omega arith

add-middle : tie.Need-overflow_add-middle invariant_loop decreases_loop
add-middle c = omega arith

real-of-word-requires : tie.Need-real_of_word-requires invariant_loop decreases_loop
real-of-word-requires c κs = tt

power-requires : tie.Need-power-requires invariant_loop decreases_loop
power-requires c κs = tt

loop-less : tie.Need-loop-lower-smaller-then-power-v invariant_loop decreases_loop
loop-less c = omega arith

loop-again : tie.Need-loop-lower-preserved-then-power-v invariant_loop decreases_loop
loop-again c =
    let l = c.loop-lower in
    let a = c.args in
    let t = test_of a.v a.k _ _ ((l.lower + l.upper) / 2) _ c.real_of_word.ensures c.power.ensures c.if-power-v.true in
    (omega arith, omega arith, raised a.v a.k l.lower l.upper ((l.lower + l.upper) / 2) l.invariant.2 t)

loop-less-2 : tie.Need-loop-lower-smaller invariant_loop decreases_loop
loop-less-2 c = omega arith

loop-again-2 : tie.Need-loop-lower-preserved invariant_loop decreases_loop
loop-again-2 c =
    let l = c.loop-lower in
    let a = c.args in
    let t = test_of a.v a.k _ _ ((l.lower + l.upper) / 2) _ c.real_of_word.ensures c.power.ensures c.if-power-v.false in
    (omega arith, omega arith, lowered a.v a.k l.lower l.upper ((l.lower + l.upper) / 2) l.invariant.2 t)

returns : tie.Need-returns invariant_loop decreases_loop
returns c =
    let l = c.loop-lower in
    let a = c.args in
    (omega arith, neighbours_part a.v a.k l.lower l.upper l.invariant.0 c.loop-lower-test.false l.invariant.2)

pub between_spec : {M : Type 1} → statement M
between_spec =
    tie.close
    (tie.spec
    invariant_loop
    decreases_loop
    loop-holds
    add-loop
    add-middle
    real-of-word-requires
    power-requires
    loop-less
    loop-again
    loop-less-2
    loop-again-2
    returns)
