-- the five numbers and the directions, each where its reader leaves off
use Rattle.convert_file.proofs.Heads.{before_none, before-short, before-read}
use Rattle.convert_file.proofs.copy_head.Goals as goal

pub returns-in_err-p : goal.returns-in_err-p
returns-in_err-p c = rw c.from_residual.ensures (before_none c.args.file.now c.args.at c.in_err-p.ensures)

pub returns-in_err-next : goal.returns-in_err-next
returns-in_err-next c =
    let a = c.args in
    rw c.from_residual-in_err-next.ensures
    (before-short a.file.now a.at c.copy_header.new.words a.out.now a.to.now _ _ _ c.in_ok-p.ensures c.in_err-next.ensures)

pub returns : goal.returns
returns c =
    let a = c.args in
    before-read a.file.now a.at c.copy_header.new.words a.out.now a.to.now _ _ _ c.in_ok-p.ensures _ _ _ c.in_ok-next.ensures
