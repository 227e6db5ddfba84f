use Rattle.std.proofs.Common.{rules, ◌↔◌, ◌<◌, ℕ, IsTrue, length, get_or, arith}
use Rattle.std.proofs.iter.runs.Made.{chains}
use Rattle.plans.proofs.Refused.{directions_none, directions-many, directions_chain}
use Rattle.plans.proofs.bad_directions.Goals as goal

pub returns-then-directions-gt-MAX_OBJECTIVES : goal.returns-then-directions-gt-MAX_OBJECTIVES
returns-then-directions-gt-MAX_OBJECTIVES c = grind (arith, directions_none, directions-many)

pub returns-else-directions-gt-MAX_OBJECTIVES : goal.returns-else-directions-gt-MAX_OBJECTIVES
returns-else-directions-gt-MAX_OBJECTIVES c =
    let marks = c.args.directions.now in
    let chain : IsTrue c.any.result ↔ ((k : ℕ) × (k < length marks) × (1 < get_or marks k 0)) = search (rules, chains) in
    directions_chain marks _ (grind arith) c.if-directions-gt-MAX_OBJECTIVES.false.1 chain
