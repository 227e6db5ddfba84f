use native.Mathlib.Nat.{mul-le-mul}
use Rattle.std.proofs.Common.{◌≤◌, arith, rules}
use Rattle.replay_values.proofs.room_for.Goals as goal

pub returns : goal.returns
returns c =
    let most : c.min-most.result ≤ 1024 = search rules in
    let dims : c.min.result ≤ 24 = search rules in
    (search rules, search rules, search rules, search rules, omega (arith, mul-le-mul most dims, c.lent-5.ensures))
