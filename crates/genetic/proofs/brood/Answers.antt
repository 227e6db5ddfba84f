-- The steps of the definition, one after the other.
use Prim.Native.Nat.{ℕ}
use lib.ListN.{get_or}
use Rattle.settings.proofs.Valid.{few}
use Rattle.list_laws.proofs.Rows.{row_within}
use Rattle.model.specs.Setting.{operators_in}
use Rattle.genetic.proofs.Broods.{won_below, crossover_eta_lem, mutation_eta_lem, brood_is}
use Rattle.genetic.proofs.brood.Goals as goal

pub read_parent-p-requires : goal.read_parent-p-requires
read_parent-p-requires c =
    let w = won_below _ _ _ _ _ c.requires.0 c.tournament_select_rank-a.ensures in
    (row_within _ _ _ _ w c.requires.1, few _ _ c.requires.3)

pub read_parent-q-requires : goal.read_parent-q-requires
read_parent-q-requires c =
    let w = won_below _ _ _ _ _ c.requires.0 c.tournament_select_rank-b.ensures in
    (row_within _ _ _ _ w c.requires.1, few _ _ c.requires.3)

pub exponent_of-k-requires : goal.exponent_of-k-requires
exponent_of-k-requires c = crossover_eta_lem _ _ _ c.requires.4

pub crossover-c-requires : goal.crossover-c-requires
crossover-c-requires c = few _ _ c.requires.3

pub exponent_of-m-requires : goal.exponent_of-m-requires
exponent_of-m-requires c = mutation_eta_lem _ _ _ c.requires.4

pub returns : goal.returns
returns c =
    let a = c.args in
    brood_is (operators_in a.operators) a.parents.now a.count (λ (i : ℕ). get_or a.ranks.now i 0) c.requires.0 a.rng.s
    _ _ _ _ _ _ _ _ _ _ _ _ _ _ _ c.tournament_select_rank-a.ensures c.tournament_select_rank-b.ensures c.read_parent-p.ensures c.read_parent-q.ensures
    c.exponent_of-k.ensures c.exponent_of-m.ensures c.crossover-c.ensures c.mutate-x.ensures c.mutate-y.ensures
