-- the sort of the pool's rows
use Rattle.std.proofs.Common.{◌≡◌, length, ◌*◌, subst, arith}
use Rattle.model.specs.Plan.{plan_at, max_objectives}
use Rattle.model.specs.Lists.{over}
use Rattle.model.specs.Row.{row_beats}
use Rattle.model.specs.Front.{front_list}
use Rattle.model.specs.Refusal.{max_pool}
use Rattle.plan_rows.proofs.Pool.{few-plans, rows-asked, pool_known, rows_known}
use Rattle.plan_rows.proofs.Rows.{rows-values}
use Rattle.front_laws.proofs.Meaning.{sorted_row_beats}
use Rattle.ranks.proofs.row_fronts.Goals as goal

pub fill_rows-requires-clause-by_index : goal.fill_rows-requires-clause-by_index
fill_rows-requires-clause-by_index c = (rows-asked c.requires.0 c.plan_count-n.ensures).1

pub fast_non_dominated_sort-requires : goal.fast_non_dominated_sort-requires
fast_non_dominated_sort-requires c =
    let e = c.plan_count-n.ensures in
    let few = few-plans c.requires.0 e in
    let size : length c.fill_rows.new.rows ≡ max_pool * max_objectives = c.fill_rows.auto.rows in (
      omega (arith, size, (rows-asked c.requires.0 e).0.2),
      rows_known c.args.directions.now (plan_at c.args.pool.now) _ c.fill_rows.new.rows (rows-values _ _ _ _ _ c.fill_rows.ensures)
          (pool_known c.requires.0 e),
      few,
      few,
      omega (arith, e, c.requires.1),
      few,
    )

pub returns : goal.returns
returns c =
    subst (λ k. c.fast_non_dominated_sort.new.rank ≡ over (front_list (row_beats c.args.directions.now (plan_at c.args.pool.now)) k) c.args.fronts.now) c.plan_count-n.ensures
    (sorted_row_beats c.args.directions.now (plan_at c.args.pool.now) _ c.fill_rows.new.rows _ _ _ _ _ _ _ (rows-values _ _ _ _ _ c.fill_rows.ensures) c.fast_non_dominated_sort.ensures).ranks
