use Rattle.std.proofs.Common.{arith}
use Rattle.pool_form.proofs.Groups.{going_start, going_more, going_last}
use Rattle.pool_form.proofs.put_word.Goals as goal

pub loop-left-init : goal.loop-left-init
loop-left-init c = going_start _ _ _ (omega arith)

pub loop-left-preserved : goal.loop-left-preserved
loop-left-preserved c =
    let l = c.loop-left in
    going_more _ _ _ l.left l.out l.p _ _ l.invariant (omega arith) c.put_byte-p.ensures

pub returns : goal.returns
returns c =
    let l = c.loop-left in
    going_last _ _ _ l.left l.out l.p _ _ l.invariant (omega arith) c.put_byte.ensures
