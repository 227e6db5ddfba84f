use Rattle.std.proofs.Common.{arith, length}
use Rattle.list_laws.proofs.Kept.{keep_below-length}
use Rattle.niching_array_laws.specs.Niche.{waits_on}
use Rattle.niching_array_laws.proofs.Places.{seeks_first, seeks_found, seeks_yes, seeks_no, seeks_ends}
use Rattle.niching_members.proofs.nth_member.Goals as goal
use Rattle.niching_members.proofs.nth_member.Goals.{then-waits_on+else-left-eq0, else-waits_on}

pub loop-i-init : goal.loop-i-init
loop-i-init c = seeks_first _ _

pub loop-i-preserved : goal.loop-i-preserved
loop-i-preserved c =
    let l = c.loop-i in
    let d = c.waits_on.ensures in
    elim c.if-waits_on.branch [
      | then-waits_on+else-left-eq0 w ↦ rw w.left-is (seeks_yes l.invariant d w.if-waits_on.true w.if-left-eq0.false)
      | else-waits_on w ↦ rw w.left-is (seeks_no l.invariant d w.if-waits_on.false)
    ]

pub returns-then-left-eq0 : goal.returns-then-left-eq0
returns-then-left-eq0 c =
    seeks_found c.loop-i.invariant _ c.loop-i-test.true c.waits_on.ensures c.if-waits_on.true c.if-left-eq0.true

pub returns : goal.returns
returns c =
    let a = c.args in
    let f = waits_on a.front.now a.lines.now a.taken.now a.l in
    absurd (seeks_ends c.loop-i.invariant (length a.front.now) (omega (arith, c.requires.1, keep_below-length f (length a.front.now))) (omega arith))
