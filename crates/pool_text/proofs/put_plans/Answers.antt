use Rattle.std.proofs.Common.{arith, sym}
use Rattle.list_laws.proofs.Built.{join_below_none, join_below-more}
use Rattle.pool_laws.specs.Text.{fields_of}
use Rattle.list_laws.proofs.Stores.{put_nothing, put_then, put_as}
use Rattle.list_laws.proofs.Rows.{join_below-room}
use Rattle.pool_text.proofs.put_plans.Goals as goal

pub loop-p-init : goal.loop-p-init
loop-p-init c = put_as _ _ _ _ _ _ (sym (join_below_none _)) (put_nothing _ _)

pub put_plan-r-requires : goal.put_plan-r-requires
put_plan-r-requires c =
    let l = c.loop-p in
    let a = c.args in
    omega (
      arith,
      c.requires.count_in_bounds_2,
      l.auto.out,
      l.invariant.ends,
      join_below-room (fields_of a.fronts.now a.lines.now a.places.now) l.p a.count c.loop-p-test.true,
    )

pub loop-p-preserved : goal.loop-p-preserved
loop-p-preserved c =
    let l = c.loop-p in
    put_as _ _ _ _ _ _ (sym (join_below-more _ l.p)) (put_then _ l.out _ _ l.r _ _ _ l.invariant c.put_plan-r.ensures)
