use Rattle.std.proofs.Common.{ap, sym, ◌∙◌, get_or}
use Rattle.model.specs.Hyperplane.{put_row}
use Rattle.hyperplane_laws.specs.Flat.{plane_row_at}
use Rattle.hyperplane_laws.proofs.Steps.{plane_rows_none, plane_rows-more}
use Rattle.extremes.proofs.fill_matrix.Goals as goal

pub loop-i-init : goal.loop-i-init
loop-i-init c = sym (plane_rows_none _ _ _ _)

pub loop-i-preserved : goal.loop-i-preserved
loop-i-preserved c =
    let l = c.loop-i in
    let a = c.args in
    let r = plane_row_at a.rows.now a.m a.ideal.now (get_or a.extremes.now l.i 0) in
    c.fill_row.ensures ∙ ap (λ t. put_row a.m t l.i r) l.invariant ∙ sym (plane_rows-more _ _ _ _ _)
