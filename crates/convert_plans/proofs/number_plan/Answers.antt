-- the number, the rows, and a setting count of 0
use Rattle.convert_plans.proofs.Turns.{number-turned}
use Rattle.convert_plans.proofs.number_plan.Goals as goal

pub returns-in_err-next : goal.returns-in_err-next
returns-in_err-next c = rw c.from_residual.ensures c.in_err-next.ensures

pub returns : goal.returns
returns c =
    let a = c.args in
    number-turned a.file.now a.at a.m a.number a.out.now a.to.now _ _ c.put_word.ensures _ _ _ c.in_ok-next.ensures _ _ c.put_word-2.ensures
