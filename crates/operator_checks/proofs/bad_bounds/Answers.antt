use Rattle.std.proofs.Common.{sym, ◌∙◌, arith, le-ltb}
use Rattle.list_laws.proofs.Tests.{all_below_no}
use Rattle.model.specs.Setting.{max_dims}
use Rattle.model.specs.Refusal.{bad_bounds}
use Rattle.operator_checks.proofs.bad_bounds.Goals as goal

pub returns-then-not-valid_bounds : goal.returns-then-not-valid_bounds
unfolding bad_bounds
returns-then-not-valid_bounds c =
    let n = c.args.n in
    rw (le-ltb max_dims n (omega arith), all_below_no _ n c.loop-i.i (omega arith) (sym c.valid_bounds.ensures ∙ c.if-not-valid_bounds.true))
