use Rattle.std.proofs.Common.{◌≡◌, arith, length}
use Rattle.model.specs.Lists.{over}
use Rattle.list_laws.specs.Rows.{flat_rows}
use Rattle.list_laws.proofs.Rows.{row_within, rows_none, rows_more}
use Rattle.association_laws.specs.Flat.{normal_at}
use Rattle.association_laws.proofs.Within.{rows_in_scale}
use Rattle.normalization.proofs.normalize_objectives.Goals as goal

pub loop-p-init : goal.loop-p-init
loop-p-init c = rows_none _ _ _

pub loop-p-preserved : goal.loop-p-preserved
loop-p-preserved c =
    let l = c.loop-p in
    let a = c.args in
    let h = row_within l.p a.n a.m (length a.normalized.now) (omega arith) (omega arith) in
    rows_more _ _ _ _ _ _ h l.invariant c.normalize_row.ensures

-- what is left is within 0..1 by the law of requests
pub returns-clause-in_scale : goal.returns-clause-in_scale
returns-clause-in_scale c r M P z i =
    let a = c.args in
    let l = c.loop-p in
    let e : l.p ≡ a.n = omega arith in
    let left : l.normalized ≡ over (flat_rows (normal_at a.rows.now a.m a.ideal.now a.intercepts.now) a.n a.m) a.normalized.now =
    rw e at l.invariant in
    rows_in_scale r M a.rows.now a.n a.m P a.ideal.now z a.intercepts.now i _ a.normalized.now left
