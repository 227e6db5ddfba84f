use Rattle.std.proofs.Common.{◌≡◌, arith}
use Rattle.load_text.proofs.Header.{marks_none, marks-more}
use Rattle.load_text.proofs.put_marks.Goals as goal

pub loop-init : goal.loop-init
loop-init c = marks_none _ _

pub loop-preserved : goal.loop-preserved
loop-preserved c = let l = c.loop in marks-more l.counter _ _ l.out l.at _ _ l.invariant c.put_word-at.ensures

pub returns : goal.returns
returns c =
    let l = c.loop in
    let e : l.counter ≡ c.args.m = omega arith in
    rw (← e) l.invariant
