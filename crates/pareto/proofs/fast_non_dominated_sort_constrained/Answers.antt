-- the order holds the first k + 1 fronts, the counts and ranks are those of round k, and `ends` has the ends of the fronts before
use Prim.Native.Nat.{◌≤◌, ◌<◌}
use mathlib.Core.Path.{◌≡◌, refl, ◌∙◌}
use native.Mathlib.Numerals.{add-one}
use native.Mathlib.Omega.{arith}
use lib.ListN.{length}
use Rattle.model.specs.Refusal.{max_pool}
use Rattle.front_laws.proofs.Flat.{flat_beats_strict}
use Rattle.front_laws.proofs.Sorting.{sorting_first, first_rest, sorting_within, ends-size, sorting_ready, sorting_more, sorting_done}
use Rattle.pareto.proofs.fast_non_dominated_sort_constrained.Goals as goal

pub loop-start-init : goal.loop-start-init
loop-start-init c =
    (refl, sorting_first _ _ _ _ _ _ _ _ c.requires.3 c.count_all.ensures c.first_front-end.ensures)

pub bounds-ends-k : goal.bounds-ends-k
bounds-ends-k c =
    let early-here : c.loop-start.k < c.args.n = let k = c.loop-start.invariant.1 in omega (arith, k.few, sorting_within _ _ _ _ _ _ _ _ _ _ _ _ k, c.loop-start-test.true) in
    omega (arith, early-here, ends-size _ _ _ _ _ _ _ _ _ _ _ _ c.loop-start.invariant.1 c.requires.5, c.requires.5)

pub pass_front-len-requires : goal.pass_front-len-requires
pass_front-len-requires c =
    let places-here : length c.count_all.new.counts ≡ max_pool = c.count_all.auto.counts in
    let wide-here : c.args.n ≤ length c.first_front-end.new.order = omega (arith, c.first_front-end.auto.order, c.requires.3) in
    let l = c.loop-start in (
      c.requires.0,
      sorting_ready _ _ _ _ _ _ _ _ _ _ _ _ l.invariant.1 (omega (arith, l.invariant.0, places-here, c.requires.2)) wide-here c.requires.4,
    )

pub loop-start-smaller : goal.loop-start-smaller
loop-start-smaller c =
    omega (arith, sorting_within _ _ _ _ _ _ _ _ _ _ _ _ c.loop-start.invariant.1, c.loop-start-test.true)

pub loop-start-preserved : goal.loop-start-preserved
loop-start-preserved c =
    let wide-here : c.args.n ≤ length c.first_front-end.new.order = omega (arith, c.first_front-end.auto.order, c.requires.3) in
    let early-here : c.loop-start.k < c.args.n = let k = c.loop-start.invariant.1 in omega (arith, k.few, sorting_within _ _ _ _ _ _ _ _ _ _ _ _ k, c.loop-start-test.true) in
    let l = c.loop-start in (
      c.pass_front-len.auto.counts ∙ l.invariant.0,
      rw add-one (sorting_more _ _ _ _ _ _ _ _ _ _ _ _ l.invariant.1 _ _ _ _ c.loop-start-test.true wide-here c.pass_front-len.ensures
          (omega (arith, early-here, c.requires.5))),
    )

pub returns : goal.returns
returns c =
    let l = c.loop-start in
    let f = c.first_front-end in
    sorting_done _ _ _ _ _ _ _ _ _ _ _ _ l.invariant.1 (flat_beats_strict _ _ _ _ _ c.requires.1) c.requires.4 _
    (first_rest _ _ _ c.args.order.now c.args.rank.now c.args.ends.now c.count_all.new.counts _ c.requires.3 c.count_all.ensures f.ensures)
    c.loop-start-test.false
