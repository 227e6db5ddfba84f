-- `refusal`: each test in turn
use Prim.Native.Nat.{ℕ}
use mathlib.Core.Path.{◌≡◌, ap, sym, ◌∙◌}
use mathlib.Core.Bool.{false}
use lib.ListN.{drop}
use Rattle.model.specs.Association.{Request}
use Rattle.model.specs.Calls.{word_request}
use Rattle.model.specs.Refusal.{Room, first_of, bad_directions, bad_count, bad_pool, too_short, no_room, select_checks, select_refusal}
use Rattle.demand3_laws.proofs.Passed.{some-objectives}
use Rattle.list_laws.proofs.Checks.{passed_over, applies-first}
use Rattle.refusals.proofs.refusal.Statement.{statement}
use Rattle.refusals.proofs.refusal.Tie as tie

abbrev request : tie.Start → Request
request s = word_request s.args.edition s.args.pool.now s.args.directions.now s.args.divisions s.args.size s.args.rng s.args.ideal.now

abbrev room : tie.Start → Room
room s = record { kept = s.args.kept; rules = s.args.rules; fronts = s.args.fronts; lines = s.args.lines }

-- no test before the k-th applies
abbrev Past : tie.Start → ℕ → Type 0
Past s k = select_refusal (request s) (room s) ≡ first_of (drop k (select_checks (request s) (no_room (request s) (room s))))

-- ---- the places: where the call starts, and where the first test has passed

abbrev start : tie.After-bad_count-bad_count → tie.Start
start c = c.before.before.before.before.before.before

abbrev counts : tie.Else-bad_directions → tie.After-bad_count-bad_count
counts c = c.before.before

abbrev start-1 : tie.Else-bad_directions → tie.Start
start-1 c = start (counts c)

-- from the third test on
abbrev first-3 : tie.Else-bad_divisions → tie.Else-bad_directions
first-3 c = c.before.before.before

abbrev first-5 : tie.Else-bad_pool → tie.Else-bad_directions
first-5 c = first-3 c.before.before.before

-- ---- what the tests say

good-directions : (c : tie.Else-bad_directions) → bad_directions (start-1 c).args.directions.now ≡ false
good-directions c = sym c.bad_directions.ensures ∙ c.if-bad_directions.false

-- the pool's count
counted : (c : tie.After-bad_count-bad_count) → c.bad_count-bad_count.result ≡ bad_count (request (start c)).edition (request (start c)).count
counted c = c.bad_count-bad_count.ensures ∙ ap (bad_count (request (start c)).edition) c.plan_count-n.ensures

past_1 : (c : tie.Else-bad_directions) → Past (start-1 c) 1
unfolding select_refusal
past_1 c = passed_over _ _ (good-directions c)

past_2 : (c : tie.Else-bad_size) → Past (start-1 c.before) 2
past_2 c = past_1 c.before ∙ passed_over _ _ (sym (counts c.before).before.bad_size-bad_size.ensures ∙ c.if-bad_size.false)

past_3 : (c : tie.Else-bad_divisions) → Past (start-1 (first-3 c)) 3
past_3 c = past_2 c.before.before ∙ passed_over _ _ (sym c.bad_divisions.ensures ∙ c.if-bad_divisions.false)

past_4 : (c : tie.Else-bad_count) → Past (start-1 (first-3 c.before)) 4
past_4 c = past_3 c.before ∙ passed_over _ _ (sym (counted (counts (first-3 c.before))) ∙ c.if-bad_count.false)

past_5 : (c : tie.Else-bad_pool) → Past (start-1 (first-5 c)) 5
unfolding bad_pool
past_5 c = past_4 c.before.before ∙ passed_over _ _ (sym c.bad_pool.ensures ∙ c.if-bad_pool.false)

slices : (c : tie.After-no_room) → let s = start-1 (first-5 c.before) in c.no_room.result ≡ no_room (request s) (room s)
unfolding no_room
slices c =
    let k = counts (first-5 c.before) in
    let s = start k in
    c.no_room.ensures ∙ ap (too_short (room s) s.args.size) k.before.before.plan_count-n.ensures

past_6 : (c : tie.Else-no_room) → Past (start-1 (first-5 c.before.before)) 6
past_6 c = past_5 c.before.before ∙ passed_over _ _ (sym (slices c.before) ∙ c.if-no_room.false)

-- ---- the needs

plan-count-requires : tie.Need-plan_count-n-requires
plan-count-requires c κs = tt

bad-size-requires : tie.Need-bad_size-bad_size-requires
bad-size-requires c κs = tt

bad-count-requires : tie.Need-bad_count-bad_count-requires
bad-count-requires c κs = tt

bad-directions-requires : tie.Need-bad_directions-requires
bad-directions-requires c κs = tt

returns : tie.Need-returns-then-bad_directions
unfolding select_refusal
returns c = sym (applies-first _ _ (sym c.bad_directions.ensures ∙ c.if-bad_directions.true))

returns-2 : tie.Need-returns-then-bad_size
returns-2 c = sym (past_1 c.before ∙ applies-first _ _ (sym (counts c.before).before.bad_size-bad_size.ensures ∙ c.if-bad_size.true))

bad-divisions-requires : tie.Need-bad_divisions-requires
bad-divisions-requires c κs = some-objectives _ (good-directions c.before)

returns-3 : tie.Need-returns-then-bad_divisions
returns-3 c = sym (past_2 c.before.before ∙ applies-first _ _ (sym c.bad_divisions.ensures ∙ c.if-bad_divisions.true))

returns-4 : tie.Need-returns-then-bad_count
returns-4 c = sym (past_3 c.before ∙ applies-first _ _ (sym (counted (counts (first-3 c.before))) ∙ c.if-bad_count.true))

bad-pool-requires : tie.Need-bad_pool-requires
bad-pool-requires c κs = (some-objectives _ (good-directions (first-3 c.before))).1

returns-5 : tie.Need-returns-then-bad_pool
unfolding bad_pool
returns-5 c = sym (past_4 c.before.before ∙ applies-first _ _ (sym c.bad_pool.ensures ∙ c.if-bad_pool.true))

no-room-requires : tie.Need-no_room-requires
no-room-requires c κs = tt

returns-6 : tie.Need-returns-then-no_room
returns-6 c = sym (past_5 c.before.before ∙ applies-first _ _ (sym (slices c.before) ∙ c.if-no_room.true))

returns-7 : tie.Need-returns
unfolding first_of
returns-7 c = sym (past_6 c)

pub refusal_spec : {M : Type 1} → statement M
refusal_spec =
    tie.close
    (tie.spec
    plan-count-requires
    bad-size-requires
    bad-count-requires
    bad-directions-requires
    returns
    returns-2
    bad-divisions-requires
    returns-3
    returns-4
    bad-pool-requires
    returns-5
    no-room-requires
    returns-6
    returns-7)
