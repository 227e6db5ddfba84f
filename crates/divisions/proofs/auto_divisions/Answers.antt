use Rattle.std.proofs.Common.{arith}
use Rattle.reference_laws.proofs.First.{missed_none, missed_more, auto_here, auto_missed}
use Rattle.divisions.proofs.auto_divisions.Goals as goal

pub loop-h-init : goal.loop-h-init
loop-h-init c = missed_none _ _

pub loop-h-preserved : goal.loop-h-preserved
loop-h-preserved c =
    let l = c.loop-h in
    missed_more _ _ l.h _ (omega arith) l.invariant c.point_count.ensures c.if-point_count-target.false

pub returns-then-point_count-target : goal.returns-then-point_count-target
returns-then-point_count-target c =
    let l = c.loop-h in
    auto_here _ _ l.h _ (omega arith) (omega arith) l.invariant c.point_count.ensures c.if-point_count-target.true

pub returns : goal.returns
returns c = auto_missed _ _ c.loop-h.h (omega arith) c.loop-h.invariant
