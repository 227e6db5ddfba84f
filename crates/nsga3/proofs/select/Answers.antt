-- `select`: the rows, the sort, and the kept list
use Prim.Native.Nat.{◌*◌}
use mathlib.Core.Path.{◌≡◌, refl}
use native.Mathlib.Omega.{arith}
use borrow.Author.Rules.{rules}
use lib.ListN.{length}
use Rattle.model.specs.Calls.{word_request}
use Rattle.model.specs.Plan.{plan_at, plan_count, max_objectives}
use Rattle.model.specs.Association.{Request}
use Rattle.model.specs.Refusal.{max_pool}
use Rattle.plan_rows.specs.Filled.{GoodPool}
use Rattle.plan_rows.proofs.Pool.{rows-asked}
use Rattle.pool_sort.specs.Laid.{RowsIn}
use Rattle.nsga3.proofs.Answer.{rows_in, accepted-exit}
use Rattle.nsga3.proofs.select.Goals as goal

pub fill_rows-requires-clause-by_index : goal.fill_rows-requires-clause-by_index
fill_rows-requires-clause-by_index c =
    let good-pool-here : GoodPool c.args.pool.now c.args.directions.now = record { few = c.requires.few_plans; narrow = c.requires.narrow; good = c.requires.good } in
    (rows-asked good-pool-here c.plan_count-n.ensures).1

pub sort_pool-cut-requires : goal.sort_pool-cut-requires
sort_pool-cut-requires c =
    let good-pool-here : GoodPool c.args.pool.now c.args.directions.now = record { few = c.requires.few_plans; narrow = c.requires.narrow; good = c.requires.good } in
    let laid-here : RowsIn c.args.directions.now (plan_at c.args.pool.now) (plan_count c.args.pool.now) c.fill_rows.new.rows = let f = c.fill_rows in
    let size : length f.new.rows ≡ max_pool * max_objectives = f.auto.rows in
    rows_in c.args.directions.now (plan_at c.args.pool.now) _ _ c.plan_count-n.ensures _ _
    (omega (arith, size, (rows-asked good-pool-here refl).0.2)) f.ensures in
    (good-pool-here, laid-here, omega (arith, c.requires.few_plans), c.requires.fronts)

pub fill_kept-rng-requires : goal.fill_kept-rng-requires
fill_kept-rng-requires c =
    let good-pool-here : GoodPool c.args.pool.now c.args.directions.now = record { few = c.requires.few_plans; narrow = c.requires.narrow; good = c.requires.good } in
    let laid-here : RowsIn c.args.directions.now (plan_at c.args.pool.now) (plan_count c.args.pool.now) c.fill_rows.new.rows = let f = c.fill_rows in
    let size : length f.new.rows ≡ max_pool * max_objectives = f.auto.rows in
    rows_in c.args.directions.now (plan_at c.args.pool.now) _ _ c.plan_count-n.ensures _ _
    (omega (arith, size, (rows-asked good-pool-here refl).0.2)) f.ensures in
    let a = c.args in
    record {
      fronts = length a.fronts.now;
      limits = c.requires;
      laid = laid-here;
      listed = (c.sort_pool-cut.ensures a.edition a.divisions a.rng a.ideal.now).order;
    }

pub returns : goal.returns
returns c =
    let request-here : Request = word_request c.args.edition c.args.pool.now c.args.directions.now c.args.divisions c.args.size c.args.rng c.args.ideal.now in
    let a = c.args in
    accepted-exit request-here _ _ _ _ _ _ _ _ _ _ _ _ (c.sort_pool-cut.ensures a.edition a.divisions a.rng a.ideal.now) c.fill_kept-rng.ensures
