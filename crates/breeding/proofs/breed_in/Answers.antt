-- `breed_in`: what is bred, and in edition 2 the pass over its words
use Prim.Native.Nat.{ℕ, ◌*◌, ◌%◌}
use mathlib.Core.Path.{◌≡◌, sym, ap, ◌∙◌}
use mathlib.Core.Bool.{Bool, true, false}
use mathlib.Core.List.{List}
use native.Mathlib.Omega.{arith}
use lib.ListN.{length, get_or}
use Rattle.model.specs.declared.ParamValue.{ParamValue}
use Rattle.model.specs.Edition.{moves_to_step}
use Rattle.model.specs.Lists.{list_below, over}
use Rattle.model.specs.Setting.{Operators, operators_in, words_of, moved_by}
use Rattle.settings.proofs.Valid.{few}
use Rattle.stepping.specs.Moved.{moved_word}
use Rattle.stepping.proofs.Standing.{some_dimension_lem}
use Rattle.candidate_laws.proofs.Sound.{AllHeld, AllSound}
use Rattle.candidate_laws.proofs.Moved.{moved-words}
use Rattle.generation_laws.specs.Bred.{bred_of_words}
use Rattle.generation_laws.proofs.Dimensions.{operators-good}
use Rattle.generation_laws.proofs.Breeding.{bred-sound}
use Rattle.breeding.proofs.breed_in.Goals as goal

pub move_all-requires : goal.move_all-requires
move_all-requires c =
    let words : length c.breed-rng.new.offspring ≡ length c.args.offspring.now = c.breed-rng.auto.offspring in
    (few _ _ c.requires.pool_in_bounds.2, omega (arith, words, c.requires.size_nonzero.4))

pub returns-then-moves_to_step-clause-words : goal.returns-then-moves_to_step-clause-words
returns-then-moves_to_step-clause-words c =
    let ops-here : Operators = operators_in c.args.operators in
    let children-here : List (List ParamValue) = (bred_of_words ops-here c.args.pool.now c.args.fronts.now c.args.kept.now c.args.size c.args.rng.s).value in
    let born-here : Bool → List ℕ = (λ moves. over (words_of (moved_by moves ops-here.dims ops-here.dim_count children-here)) c.args.offspring.now) in
    let held-here : AllHeld ops-here.dims ops-here.dim_count = operators-good c.args.operators _ c.well_formed.1.1.1.1.1.0 c.requires.pool_in_bounds.2 in
    let sound-here : AllSound ops-here.dims ops-here.dim_count c.args.size children-here = bred-sound ops-here held-here c.requires.pool_in_bounds.2 c.args.pool.now c.args.fronts.now c.args.kept.now c.args.size c.args.rng.s
    c.requires.pool_in_bounds.1 c.requires.size_nonzero.2 c.requires.size_nonzero.3 c.requires.size_nonzero.0 in
    let passed-here : over (list_below (λ j. moved_word (ops-here.dims (j % ops-here.dim_count)) (get_or (born-here false) j 0)) (c.args.size * ops-here.dim_count)) (born-here false) ≡ born-here true = moved-words ops-here.dims ops-here.dim_count held-here c.requires.pool_in_bounds.2 c.args.size children-here sound-here c.args.offspring.now
    (λ j l. some_dimension_lem j c.args.size ops-here.dim_count l) in
    let e : moves_to_step c.args.edition ≡ true = sym c.moves_to_step.ensures ∙ c.if-moves_to_step.true in
    let pass : List ℕ → List ℕ = λ w. over (list_below (λ j. moved_word (ops-here.dims (j % ops-here.dim_count)) (get_or w j 0)) (c.args.size * ops-here.dim_count)) w in c.move_all.ensures ∙ ap pass c.breed-rng.ensures.words ∙ passed-here ∙ ap born-here (sym e)
