use Rattle.std.proofs.Common.{arith}
use Rattle.niching_array_laws.proofs.Places.{seeks_first, seeks_found, seeks_yes, seeks_no, seeks_ends}
use Rattle.niching_lines.proofs.nth_least.Goals as goal
use Rattle.niching_lines.proofs.nth_least.Goals.{then-is_least+else-left-eq0, else-is_least}

pub loop-l-init : goal.loop-l-init
loop-l-init c = seeks_first _ _

pub loop-l-preserved : goal.loop-l-preserved
loop-l-preserved c =
    let l = c.loop-l in
    let d = c.is_least.ensures in
    elim c.if-is_least.branch [
      | then-is_least+else-left-eq0 w ↦ rw w.left-is (seeks_yes l.invariant d w.if-is_least.true w.if-left-eq0.false)
      | else-is_least w ↦ rw w.left-is (seeks_no l.invariant d w.if-is_least.false)
    ]

pub returns-then-left-eq0 : goal.returns-then-left-eq0
returns-then-left-eq0 c =
    seeks_found c.loop-l.invariant _ c.loop-l-test.true c.is_least.ensures c.if-is_least.true c.if-left-eq0.true

pub returns : goal.returns
returns c = absurd (seeks_ends c.loop-l.invariant _ c.requires.2 (omega arith))
