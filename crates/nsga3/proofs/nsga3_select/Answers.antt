-- `nsga3_select`: the refusal's number, or the selection
use Rattle.model.specs.Calls.{lent}
use Rattle.nsga3.proofs.Answer.{refused, limits-kept, selected_so}
use borrow.Author.Rules.{rules}
use Rattle.nsga3.proofs.nsga3_select.Goals as goal

pub select-requires : goal.select-requires
select-requires c =
    let a = c.args in
    limits-kept a.edition a.pool.now a.directions.now a.divisions a.size a.rng a.ideal.now (lent a.kept.now a.rules.now a.fronts.now a.lines.now)
    c.refusal-check.ensures c.in-Ok.is

pub returns-in-Err : goal.returns-in-Err
returns-in-Err c =
    let a = c.args in
    refused a.edition a.pool.now a.directions.now a.divisions a.size a.rng a.ideal.now (lent a.kept.now a.rules.now a.fronts.now a.lines.now)
    c.refusal-check.ensures _ c.in-Err.is

pub returns-in-Ok : goal.returns-in-Ok
returns-in-Ok c =
    let a = c.args in
    selected_so a.edition a.pool.now a.directions.now a.divisions a.size a.rng a.ideal.now (lent a.kept.now a.rules.now a.fronts.now a.lines.now)
    c.refusal-check.ensures c.in-Ok.is _ c.select.ensures
