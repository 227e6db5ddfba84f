use Rattle.std.proofs.Common.{arith}
use Rattle.convert_file.proofs.Heads.{fills_none, fills_stop, fills-next, filled}
use Rattle.convert_file.proofs.copy_header.Goals as goal

pub loop-i-init : goal.loop-i-init
loop-i-init c = fills_none _ _ _ _ _

pub returns-in_err-read : goal.returns-in_err-read
returns-in_err-read c =
    let l = c.loop-i in
    rw c.from_residual.ensures (fills_stop _ _ _ _ _ l.i l.p l.words l.out l.to l.invariant 5 c.loop-i-test.true c.in_err-read.ensures)

pub loop-i-preserved : goal.loop-i-preserved
loop-i-preserved c =
    let l = c.loop-i in
    fills-next _ _ _ _ _ l.i l.p l.words l.out l.to l.invariant (omega (arith, c.loop-i-test.true, c.requires)) _ _ _ c.in_ok-read.ensures

pub returns : goal.returns
returns c =
    let l = c.loop-i in
    filled _ _ _ _ _ l.i l.p l.words l.out l.to (omega arith) c.requires l.invariant
