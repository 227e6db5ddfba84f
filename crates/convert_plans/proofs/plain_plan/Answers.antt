-- the number, the rows, the setting count and the settings, each where its reader leaves off
use Rattle.pool_number.proofs.Numbers.{told}
use Rattle.convert_plans.proofs.Turns.{plain_no_number, plain_no_rows, plain_no_count, plain_no_settings, plain_turned}
use Rattle.convert_plans.proofs.plain_plan.Goals as goal

pub returns-in_err-plan : goal.returns-in_err-plan
returns-in_err-plan c =
    let a = c.args in
    rw c.from_residual.ensures (plain_no_number a.file.now a.at a.m (told a.file.now a.at _ c.in_err-plan.ensures))

pub returns-in_err-p : goal.returns-in_err-p
returns-in_err-p c =
    let a = c.args in
    rw c.from_residual-in_err-p.ensures (plain_no_rows a.file.now a.at a.m _ _ (told a.file.now a.at _ c.in_ok-plan.ensures) c.in_err-p.ensures)

pub returns-in_err-settings : goal.returns-in_err-settings
returns-in_err-settings c =
    let a = c.args in
    rw c.from_residual-in_err-settings.ensures
    (plain_no_count a.file.now a.at a.m _ _ (told a.file.now a.at _ c.in_ok-plan.ensures) a.out.now a.to.now _ _ _ c.in_ok-p.ensures
    (told a.file.now c.in_ok-p.p _ c.in_err-settings.ensures))

pub returns-in_err-next : goal.returns-in_err-next
returns-in_err-next c =
    let a = c.args in
    rw c.from_residual-in_err-next.ensures
    (plain_no_settings a.file.now a.at a.m _ _ (told a.file.now a.at _ c.in_ok-plan.ensures) a.out.now a.to.now _ _ _ c.in_ok-p.ensures
    _ _ (told a.file.now c.in_ok-p.p _ c.in_ok-settings.ensures) c.in_err-next.ensures)

pub returns : goal.returns
returns c =
    let a = c.args in
    plain_turned a.file.now a.at a.m _ _ (told a.file.now a.at _ c.in_ok-plan.ensures) a.out.now a.to.now _ _ _ c.in_ok-p.ensures
    _ _ (told a.file.now c.in_ok-p.p _ c.in_ok-settings.ensures) a.i _ c.in_ok-next.ensures _ c.is_plain-held.ensures
