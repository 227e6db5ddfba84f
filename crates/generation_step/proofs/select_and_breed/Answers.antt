-- `select_and_breed`: the selection, the edition's fronts, and what is bred by them
use Prim.Native.Nat.{ℕ}
use mathlib.Core.Path.{◌≡◌}
use native.Mathlib.Omega.{arith}
use lib.ListN.{length}
use Rattle.model.specs.Association.{Request}
use Rattle.model.specs.Setting.{Operators, operators_in}
use Rattle.model.specs.Calls.{word_request, Lent, lent, room_of}
use Rattle.plan_rows.specs.Filled.{GoodPool}
use Rattle.list_laws.proofs.Checks.{pool-plans}
use Rattle.demand3_laws.proofs.Passed.{Passed, passed, some-objectives, size-limits, count-in_pool}
use Rattle.candidate_laws.proofs.Generations.{plans-breedable}
use Rattle.generation_laws.specs.Bred.{bred_of_words}
use Rattle.generation_laws.proofs.Accepted.{dimensions-pass, offspring-room, kept-room, fronts-room}
use Rattle.generation_laws.proofs.Answer.{select_exit_lem, kept-in_pool, bred-exit}
use Rattle.generation_step.proofs.select_and_breed.Goals as goal

pub rank_fronts-requires : goal.rank_fronts-requires
rank_fronts-requires c =
    let ops-here : Operators = operators_in c.args.operators in
    let request-here : Request = word_request c.args.edition c.args.pool.now c.args.directions.now c.args.divisions c.args.size c.args.rng c.args.ideal.now in
    let at-here : Lent = lent c.args.kept.now c.args.rules.now c.args.fronts.now c.args.lines.now in
    let room-here : ℕ = length c.args.offspring.now in
    let given-here : Passed ops-here request-here (room_of at-here) room-here = passed ops-here request-here (room_of at-here) room-here c.requires.offspring_value in
    let good-pool-here : GoodPool c.args.pool.now c.args.directions.now = let ok = given-here in
    record { few = count-in_pool c.args.edition _ ok.count; narrow = (some-objectives _ ok.directions).1; good = pool-plans request-here ok.pool } in
    let handed : length c.nsga3_select-selection.new.fronts ≡ length c.args.fronts.now = c.nsga3_select-selection.auto.fronts in
    (good-pool-here, omega (arith, handed, fronts-room given-here c.requires.bound.0), c.requires.bound.1)

pub breed_in-rng-requires-clause-pool_in_bounds : goal.breed_in-rng-requires-clause-pool_in_bounds
breed_in-rng-requires-clause-pool_in_bounds c =
    let ops-here : Operators = operators_in c.args.operators in
    let request-here : Request = word_request c.args.edition c.args.pool.now c.args.directions.now c.args.divisions c.args.size c.args.rng c.args.ideal.now in
    let at-here : Lent = lent c.args.kept.now c.args.rules.now c.args.fronts.now c.args.lines.now in
    let room-here : ℕ = length c.args.offspring.now in
    let given-here : Passed ops-here request-here (room_of at-here) room-here = passed ops-here request-here (room_of at-here) room-here c.requires.offspring_value in
    let a = c.args in
    let e = select_exit_lem a.edition ops-here a.pool.now a.directions.now a.divisions a.size a.rng a.ideal.now at-here a.offspring.now c.requires.offspring_value c.requires.bound.0 _ c.nsga3_select-selection.ensures in
    let ok = given-here in
    let rows : length c.rank_fronts.new.ranks ≡ length a.ranks.now = c.rank_fronts.auto.ranks in
    -- the selection's fronts have room for the pool too, so that a program which breeds by them fails for its offspring alone
    let others : length c.nsga3_select-selection.new.fronts ≡ length a.fronts.now = c.nsga3_select-selection.auto.fronts in
    let kept : length c.nsga3_select-selection.new.kept ≡ length a.kept.now = c.nsga3_select-selection.auto.kept in (omega (arith, rows, c.requires.bound.1, others, fronts-room ok c.requires.bound.0), plans-breedable ops-here request-here ok.parents, dimensions-pass ok, ok.operators)

pub breed_in-rng-requires-clause-size_nonzero : goal.breed_in-rng-requires-clause-size_nonzero
breed_in-rng-requires-clause-size_nonzero c =
    let ops-here : Operators = operators_in c.args.operators in
    let request-here : Request = word_request c.args.edition c.args.pool.now c.args.directions.now c.args.divisions c.args.size c.args.rng c.args.ideal.now in
    let at-here : Lent = lent c.args.kept.now c.args.rules.now c.args.fronts.now c.args.lines.now in
    let room-here : ℕ = length c.args.offspring.now in
    let given-here : Passed ops-here request-here (room_of at-here) room-here = passed ops-here request-here (room_of at-here) room-here c.requires.offspring_value in
    let a = c.args in
    let e = select_exit_lem a.edition ops-here a.pool.now a.directions.now a.divisions a.size a.rng a.ideal.now at-here a.offspring.now c.requires.offspring_value c.requires.bound.0 _ c.nsga3_select-selection.ensures in
    let ok = given-here in
    let rows : length c.rank_fronts.new.ranks ≡ length a.ranks.now = c.rank_fronts.auto.ranks in
    -- the selection's fronts have room for the pool too, so that a program which breeds by them fails for its offspring alone
    let others : length c.nsga3_select-selection.new.fronts ≡ length a.fronts.now = c.nsga3_select-selection.auto.fronts in
    let kept : length c.nsga3_select-selection.new.kept ≡ length a.kept.now = c.nsga3_select-selection.auto.kept in (
      (size-limits _ ok.size).0,
      (size-limits _ ok.size).1,
      omega (arith, kept, kept-room ok c.requires.bound.0),
      kept-in_pool a.edition ops-here a.pool.now a.directions.now a.divisions a.size a.rng a.ideal.now at-here a.offspring.now c.requires.offspring_value c.requires.bound.0 _ e,
      offspring-room ok,
    )

pub returns : goal.returns
returns c =
    let ops-here : Operators = operators_in c.args.operators in
    let at-here : Lent = lent c.args.kept.now c.args.rules.now c.args.fronts.now c.args.lines.now in
    let a = c.args in
    let b = c.breed_in-rng in
    -- the ranks that it draws by are the edition's fronts
    let drawn : b.result.s ≡ (bred_of_words ops-here a.pool.now c.rank_fronts.new.ranks c.nsga3_select-selection.new.kept a.size c.nsga3_select-selection.result.rng.s).state = b.ensures.state in
    let e = select_exit_lem a.edition ops-here a.pool.now a.directions.now a.divisions a.size a.rng a.ideal.now at-here a.offspring.now c.requires.offspring_value c.requires.bound.0 _ c.nsga3_select-selection.ensures in
    bred-exit a.edition ops-here a.pool.now a.directions.now a.divisions a.size a.rng a.ideal.now at-here a.offspring.now c.requires.offspring_value c.requires.bound.0 _ e c.rank_fronts.new.ranks a.ranks.now
    c.rank_fronts.ensures _ _ b.ensures.words drawn
