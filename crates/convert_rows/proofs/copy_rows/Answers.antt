-- the values, the constraint count and the constraints, each where its reader leaves off
use Rattle.convert_rows.proofs.Copies.{rows_none, rows_no_count, rows_copied}
use Rattle.convert_rows.proofs.copy_rows.Goals as goal

pub returns-in_err-p : goal.returns-in_err-p
returns-in_err-p c = rw c.from_residual.ensures (rows_none _ c.args.at c.args.m c.in_err-p.ensures)

pub returns-in_err-count : goal.returns-in_err-count
returns-in_err-count c =
    let a = c.args in
    rw c.from_residual-in_err-count.ensures (rows_no_count a.file.now a.at a.m a.out.now a.to.now _ _ _ c.in_ok-p.ensures c.in_err-count.ensures)

pub returns : goal.returns
returns c =
    let a = c.args in
    rows_copied a.file.now a.at a.m a.out.now a.to.now _ _ _ c.in_ok-p.ensures _ _ _ c.in_ok-count.ensures
    c.copy_numbers-2.new.out c.copy_numbers-2.new.to c.copy_numbers-2.result c.copy_numbers-2.ensures
