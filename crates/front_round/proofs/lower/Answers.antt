use Rattle.std.proofs.Common.{refl, arith}
use borrow.Author.Tests.{eq-eqb, ne_eqb}
use Rattle.front_round.proofs.lower.Goals as goal

-- where the count is now zero it was 1, so there is room
pub bounds-order-len : goal.bounds-order-len
bounds-order-len c = c.requires.2 (omega arith)

pub overflow_add-result : goal.overflow_add-result
overflow_add-result c = omega (arith, c.requires.2 (omega arith))

pub returns-then-c-eq0 : goal.returns-then-c-eq0
returns-then-c-eq0 c =
    let e = eq-eqb _ 0 c.if-c-eq0.true in
    record { counts = refl; order = rw e (record { stored = refl; ends = refl }) }

pub returns-else-c-eq0 : goal.returns-else-c-eq0
returns-else-c-eq0 c =
    let e = ne_eqb _ 0 c.if-c-eq0.false in
    record { counts = refl; order = rw e (record { stored = refl; ends = omega arith }) }
