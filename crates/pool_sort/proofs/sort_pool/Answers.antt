-- `sort_pool`: the flat lists' sort, and its cut
use Prim.Native.Nat.{ℕ, ◌*◌, ◌≤◌}
use mathlib.Core.Path.{◌≡◌, refl, sym, subst}
use native.Mathlib.Omega.{arith}
use lib.ListN.{length}
use Rattle.model.specs.Calls.{word_request}
use Rattle.model.specs.Plan.{plan_at}
use Rattle.model.specs.Refusal.{max_pool}
use Rattle.front_laws.proofs.Places.{sorted_few}
use Rattle.plan_rows.proofs.Pool.{few-plans, pool_constraint_counts, pool_known, rows_known}
use Rattle.pool_sort.proofs.Sorting.{sorts}
use Rattle.pool_sort.proofs.sort_pool.Goals as goal

pub fast_non_dominated_sort_constrained-count-requires : goal.fast_non_dominated_sort_constrained-count-requires
fast_non_dominated_sort_constrained-count-requires c =
    let e = c.plan_count-n.ensures in
    let f = c.fill_constraints in
    let flags : length f.new.feasible ≡ max_pool = f.auto.feasible in
    let sums : length f.new.violations ≡ max_pool = f.auto.violations in
    let few = few-plans c.requires.0 e in (
      record {
        table = subst (λ k. k * length c.args.directions.now ≤ length c.args.rows.now) (sym e) c.requires.1.table;
        flags = omega (arith, few);
        sums = omega (arith, few);
      },
      rows_known c.args.directions.now (plan_at c.args.pool.now) _ c.args.rows.now (λ p j l u. c.requires.1.values p j (omega (arith, e)) u)
          (pool_known c.requires.0 e),
      few,
      omega (arith, e, c.requires.2),
      omega (arith, e, c.requires.3),
      few,
    )

pub split_at-requires : goal.split_at-requires
split_at-requires c =
    let f = c.fast_non_dominated_sort_constrained-count in
    let ends : length f.new.ends ≡ max_pool = f.auto.ends in
    omega (arith, few-plans c.requires.0 c.plan_count-n.ensures, sorted_few _ _ _ _ _ _ _ _ _ f.ensures)

pub returns : goal.returns
returns c v h g i =
    let f = c.fast_non_dominated_sort_constrained-count in
    sorts (word_request v c.args.pool.now c.args.directions.now h c.args.size g i) _ c.plan_count-n.ensures c.args.rows.now c.requires.1 (pool_known c.requires.0 refl) _ _ _ _ _ _ _ _ _ _ _ _
    (omega (arith, f.auto.order, c.requires.2)) c.fill_constraints.ensures f.ensures c.split_at.ensures

pub fill_constraints-requires-clause-by_index : goal.fill_constraints-requires-clause-by_index
fill_constraints-requires-clause-by_index c = pool_constraint_counts c.requires.0 c.plan_count-n.ensures
