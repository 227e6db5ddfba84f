-- three numbers, each where the one before it leaves off, and their form
use Rattle.std.proofs.Common.{sym, ◌∙◌}
use Rattle.pool_number.proofs.Numbers.{told}
use Rattle.pool_settings.proofs.Passed.{number-told, no_param, no_kind, no_value, bad-setting, good-setting}
use Rattle.pool_settings.proofs.read_setting.Goals as goal

pub returns-in_err-param : goal.returns-in_err-param
returns-in_err-param c = rw c.from_residual.ensures (no_param _ c.args.at (told _ c.args.at _ c.in_err-param.ensures))

pub returns-in_err-kind : goal.returns-in_err-kind
returns-in_err-kind c =
    let a = number-told c.args.file.now c.args.at _ c.in_ok-param.ensures in
    rw c.from_residual-in_err-kind.ensures (no_kind _ _ a (told _ c.in_ok-param.param.next _ c.in_err-kind.ensures))

pub returns-in_err-value : goal.returns-in_err-value
returns-in_err-value c =
    let a = number-told c.args.file.now c.args.at _ c.in_ok-param.ensures in
    let b = number-told c.args.file.now c.in_ok-param.param.next _ c.in_ok-kind.ensures in
    rw c.from_residual-in_err-value.ensures (no_value _ _ a b (told _ c.in_ok-kind.kind.next _ c.in_err-value.ensures))

pub returns-then-good_setting : goal.returns-then-good_setting
returns-then-good_setting c =
    let a = number-told c.args.file.now c.args.at _ c.in_ok-param.ensures in
    let b = number-told c.args.file.now c.in_ok-param.param.next _ c.in_ok-kind.ensures in
    let v = number-told c.args.file.now c.in_ok-kind.kind.next _ c.in_ok-value.ensures in
    good-setting _ _ a b v (sym (c.good_setting.ensures _) ∙ c.if-good_setting.true)

pub returns-else-good_setting : goal.returns-else-good_setting
returns-else-good_setting c =
    let a = number-told c.args.file.now c.args.at _ c.in_ok-param.ensures in
    let b = number-told c.args.file.now c.in_ok-param.param.next _ c.in_ok-kind.ensures in
    let v = number-told c.args.file.now c.in_ok-kind.kind.next _ c.in_ok-value.ensures in
    bad-setting _ _ a b v (sym (c.good_setting.ensures _) ∙ c.if-good_setting.false)
