-- `breed`: parents and ranks are laid out, and the words read back as the parents
use Prim.Native.Nat.{◌*◌, ◌≤◌}
use mathlib.Core.Path.{◌≡◌, ap, ◌∙◌}
use native.Mathlib.Omega.{arith}
use lib.ListN.{length, get_or}
use native.Mathlib.Nat.{mul-le-mul}
use Rattle.model.specs.Lists.{over}
use Rattle.model.specs.Setting.{Operators, max_dims, words_of, operators_in, offspring_of}
use Rattle.model.specs.Refusal.{max_size}
use Rattle.settings.specs.Candidate.{parents_in}
use Rattle.settings.proofs.Valid.{few}
use Rattle.generation_laws.proofs.Dimensions.{operators-good}
use Rattle.generation_laws.proofs.Breeding.{bred_is}
use Rattle.breeding.proofs.breed.Goals as goal

pub fill_parents-rng-requires : goal.fill_parents-rng-requires
fill_parents-rng-requires c =
    let fit-here : c.args.size * c.args.operators.n_dims ≤ max_size * max_dims = mul-le-mul c.requires.size_nonzero.1 (few _ _ c.requires.pool_in_bounds.2) in
    (c.requires.size_nonzero.2, c.requires.size_nonzero.3, c.requires.pool_in_bounds.2, fit-here)

pub write_offspring-requires : goal.write_offspring-requires
write_offspring-requires c =
    let fit-here : c.args.size * c.args.operators.n_dims ≤ max_size * max_dims = mul-le-mul c.requires.size_nonzero.1 (few _ _ c.requires.pool_in_bounds.2) in
    let r = c.look_up in
    let words : length c.fill_parents-rng.new.parents ≡ max_size * max_dims = c.fill_parents-rng.auto.parents in
    let places : length r.new.to ≡ max_size = r.auto.to in
    (c.requires.size_nonzero.0, omega (arith, words, fit-here), omega (arith, places, c.requires.size_nonzero.1), c.requires.pool_in_bounds.2, c.requires.pool_in_bounds.3, c.requires.size_nonzero.4, c.requires.size_nonzero.1)

pub returns-clause-words : goal.returns-clause-words
returns-clause-words c =
    let ops-here : Operators = operators_in c.args.operators in
    let a = c.args in
    let p = c.fill_parents-rng in
    let r = c.look_up in
    let w = c.write_offspring in
    -- it draws on from where the parents' draws ended
    let drawn : w.result.s ≡ (offspring_of ops-here (parents_in ops-here.dims ops-here.dim_count p.new.parents a.size) (λ i. get_or r.new.to i 0) a.size p.result.s).state = w.ensures.state in
    let e = bred_is ops-here (operators-good a.operators _ c.well_formed.1.1.1.1.0 c.requires.pool_in_bounds.2) c.requires.pool_in_bounds.2 a.pool.now a.fronts.now a.kept.now a.size a.rng.s c.requires.pool_in_bounds.1 c.requires.size_nonzero.2 c.requires.size_nonzero.3
    c.requires.size_nonzero.0 _ _ _ _ _ p.ensures.words p.ensures.state r.ensures in w.ensures.words ∙ ap (λ d. over (words_of d.value) a.offspring.now) e

pub returns-clause-state : goal.returns-clause-state
returns-clause-state c =
    let ops-here : Operators = operators_in c.args.operators in
    let a = c.args in
    let p = c.fill_parents-rng in
    let r = c.look_up in
    let w = c.write_offspring in
    -- it draws on from where the parents' draws ended
    let drawn : w.result.s ≡ (offspring_of ops-here (parents_in ops-here.dims ops-here.dim_count p.new.parents a.size) (λ i. get_or r.new.to i 0) a.size p.result.s).state = w.ensures.state in
    let e = bred_is ops-here (operators-good a.operators _ c.well_formed.1.1.1.1.0 c.requires.pool_in_bounds.2) c.requires.pool_in_bounds.2 a.pool.now a.fronts.now a.kept.now a.size a.rng.s c.requires.pool_in_bounds.1 c.requires.size_nonzero.2 c.requires.size_nonzero.3
    c.requires.size_nonzero.0 _ _ _ _ _ p.ensures.words p.ensures.state r.ensures in drawn ∙ ap (λ d. d.state) e
