use Rattle.std.proofs.Common.{◌≡◌, true, rules, replicate}
use Rattle.shapers.specs.Marked.{feasible_in}
use Rattle.shapers.proofs.Marks.{feasible-stand, all-marked, filled_front}
use Rattle.shapers.proofs.mark_shapers.Goals as goal

pub returns-else-not-feasible_only : goal.returns-else-not-feasible_only
returns-else-not-feasible_only c =
    let a = c.args in
    feasible-stand a.edition (feasible_in a.pool.now) a.n a.whole a.end a.order.now c.requires.6 a.marks.now _ c.fill_constraints.ensures.feasibility
    c.feasible_only.ensures c.if-not-feasible_only.false

pub returns-then-not-feasible_only : goal.returns-then-not-feasible_only
returns-then-not-feasible_only c =
    let a = c.args in
    let filled : c.fill.new.self ≡ replicate a.n true = search rules in
    all-marked a.edition (feasible_in a.pool.now) a.n a.whole a.end a.order.now c.requires.6 a.marks.now _ c.fill_constraints.ensures.feasibility _
    (filled_front a.n _ _ filled) c.feasible_only.ensures c.if-not-feasible_only.true
