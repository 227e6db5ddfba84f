-- where every plan counts as feasible the constraint rule compares rows
use mathlib.Core.Bool.{true, false}
use native.Mathlib.Omega.{arith}
use lib.ListN.{replicate, get_or-replicate}
use Rattle.model.specs.Refusal.{max_pool}
use Rattle.front_laws.proofs.Flat.{flat_beats-rows}
use Rattle.front_laws.proofs.Sorting.{sorted_same}
use Rattle.pareto.proofs.fast_non_dominated_sort.Goals as goal

pub returns : goal.returns
returns c =
    sorted_same _ _ _ _ _ _ _ _ _ _
    (flat_beats-rows c.args.rows.now c.args.m (replicate max_pool true) _ c.args.n
    (λ p l. get_or-replicate max_pool p true false (omega (arith, c.requires.2))))
    c.fast_non_dominated_sort_constrained.ensures
