use Rattle.std.proofs.Common.{◌≡◌, sym, arith}
use lib.Ieee.{of_bits}
use Rattle.list_laws.proofs.Below.{cond_lt, cond_le}
use Rattle.list_laws.proofs.Runs.{run_none, run_more}
use Rattle.hyperplane_laws.specs.Flat.{plane_row_at}
use Rattle.extremes.proofs.fill_row.Goals as goal

pub loop-j-init : goal.loop-j-init
loop-j-init c = run_none _ _ _

pub loop-j-preserved : goal.loop-j-preserved
loop-j-preserved c = run_more _ _ _ _ _ _ c.loop-j.invariant (sym (cond_lt c.loop-j.j c.args.m _ _ (omega arith)))

pub returns : goal.returns
unfolding of_bits
returns c =
    let l = c.loop-j in
    let a = c.args in
    let e : l.j ≡ a.m = omega arith in
    run_more (plane_row_at a.rows.now a.m a.ideal.now a.p) _ _ _ _ _ (rw e at l.invariant) (sym (cond_le a.m a.m _ _ (omega arith)))
