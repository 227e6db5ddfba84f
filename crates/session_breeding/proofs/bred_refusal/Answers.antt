-- 8 and 9 for the plans that wait and the children, and then 10
use Rattle.session_breeding.proofs.Breeding.{started-by, short_is}
use Rattle.session_breeding.proofs.bred_refusal.Goals as goal

pub returns-in-Err : goal.returns-in-Err
returns-in-Err c =
    let g = c.gather-n.ensures in
    let a = c.args in
    short_is a.session a.history.now a.plans.now a.pool.now c.requires _ _ _ g.laid g.count c.joined_refusal-check.result
    (started-by a.session a.history.now a.plans.now a.pool.now c.requires _ _ _ g.laid g.count c.joined_refusal-check.result _ c.slid-started.ensures c.joined_refusal-check.ensures) _ c.in-Err.is

pub returns-in-Ok : goal.returns-in-Ok
returns-in-Ok c =
    let g = c.gather-n.ensures in
    let a = c.args in
    short_is a.session a.history.now a.plans.now a.pool.now c.requires _ _ _ g.laid g.count c.joined_refusal-check.result
    (started-by a.session a.history.now a.plans.now a.pool.now c.requires _ _ _ g.laid g.count c.joined_refusal-check.result _ c.slid-started.ensures c.joined_refusal-check.ensures) _ c.in-Ok.is
