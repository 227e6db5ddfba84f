use Rattle.association_laws.specs.Flat.{intercept_at}
use Rattle.hyperplane_laws.proofs.Worked.{old_serve, plane_serves}
use Rattle.hyperplane.proofs.find_plane_intercepts.Goals as goal

-- the old intercepts are written over the plane's where the test says so
pub returns-then-plane : goal.returns-then-plane
returns-then-plane c =
    let a = c.args in
    let old = intercept_at a.rows.now a.n a.m a.ideal.now in
    old_serve a.rows.now a.n a.m a.ideal.now old a.out.now _ _ _ c.plane.ensures c.if-plane.true c.find_intercepts.ensures

pub returns-else-plane : goal.returns-else-plane
returns-else-plane c =
    let a = c.args in
    let old = intercept_at a.rows.now a.n a.m a.ideal.now in
    plane_serves a.rows.now a.n a.m a.ideal.now old a.out.now _ _ c.plane.ensures c.if-plane.false
