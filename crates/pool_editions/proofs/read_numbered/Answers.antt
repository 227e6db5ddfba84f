-- the number, the rows, the setting count and the settings, each where its reader leaves off
use Rattle.pool_number.proofs.Numbers.{told}
use Rattle.pool_settings.proofs.Passed.{number-told}
use Rattle.pool_editions.proofs.Entries.{no_number, no_rows, no_count, second-entry}
use Rattle.pool_editions.proofs.read_numbered.Goals as goal

pub returns-in_err-number : goal.returns-in_err-number
returns-in_err-number c =
    rw c.from_residual.ensures (no_number _ c.args.at _ c.args.base c.args.pool.now (told _ c.args.at _ c.in_err-number.ensures))

pub returns-in_err-p : goal.returns-in_err-p
returns-in_err-p c =
    let a = number-told c.args.file.now c.args.at _ c.in_ok-number.ensures in
    rw c.from_residual-in_err-p.ensures (no_rows _ _ c.args.m c.args.base c.args.pool.now a c.in_err-p.ensures)

pub returns-in_err-count : goal.returns-in_err-count
returns-in_err-count c =
    let a = number-told c.args.file.now c.args.at _ c.in_ok-number.ensures in
    rw c.from_residual-in_err-count.ensures
    (no_count _ _ c.args.m c.args.base c.args.pool.now a _ c.in_ok-p.ensures (told _ c.in_ok-p.p _ c.in_err-count.ensures))

pub returns : goal.returns
returns c =
    let a = number-told c.args.file.now c.args.at _ c.in_ok-number.ensures in
    let k = number-told c.args.file.now c.in_ok-p.p _ c.in_ok-count.ensures in
    second-entry _ _ c.args.m c.args.base c.args.pool.now a _ c.in_ok-p.ensures k c.read_settings.result c.read_settings.ensures
