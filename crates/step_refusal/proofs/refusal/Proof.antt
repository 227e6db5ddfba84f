-- `refusal`: each test in turn
use Prim.Native.Nat.{ℕ}
use mathlib.Core.Path.{◌≡◌, ap, sym, ◌∙◌}
use mathlib.Core.Bool.{false}
use lib.ListN.{drop}
use Rattle.model.specs.Calls.{word_request}
use Rattle.model.specs.Association.{Request}
use Rattle.model.specs.Setting.{Operators, operators_in}
use Rattle.model.specs.Refusal.{Room, first_of, bad_directions, bad_size, bad_bounds, bad_count, bad_pool, bad_parents, step_too_short, no_step_room, step_checks, step_refusal}
use Rattle.settings.proofs.Valid.{few-bounds}
use Rattle.demand3_laws.proofs.Passed.{some-objectives, size-limits}
use Rattle.list_laws.proofs.Checks.{passed_over, applies-first}
use Rattle.step_refusal.proofs.refusal.Statement.{statement}
use Rattle.step_refusal.proofs.refusal.Tie as tie

abbrev request : tie.Start → Request
request s = word_request s.args.edition s.args.pool.now s.args.directions.now s.args.divisions s.args.size s.args.rng s.args.ideal.now

abbrev ops : tie.Start → Operators
ops s = operators_in s.args.operators

abbrev room : tie.Start → Room
room s = record { kept = s.args.kept; rules = s.args.rules; fronts = s.args.fronts; lines = s.args.lines }

-- no test before the k-th applies
abbrev Past : tie.Start → ℕ → Type 0
Past s k = step_refusal (ops s) (request s) (room s) s.args.offspring ≡ first_of (drop k (step_checks (ops s) (request s) (room s) s.args.offspring))

-- ---- the places, each from the next: where the call starts, and where each test has passed

abbrev start : tie.Else-bad_directions → tie.Start
start c = c.before.before.before.before.before

abbrev passed-1 : tie.Else-bad_size → tie.Else-bad_directions
passed-1 c = c.before.before

abbrev passed-2 : tie.Else-bad_divisions → tie.Else-bad_size
passed-2 c = c.before.before

abbrev passed-3 : tie.Else-bad_operators → tie.Else-bad_divisions
passed-3 c = c.before.before

abbrev passed-4 : tie.Else-bad_bounds → tie.Else-bad_operators
passed-4 c = c.before.before.before

abbrev passed-5 : tie.Else-bad_steps → tie.Else-bad_bounds
passed-5 c = c.before.before

-- the plans of the pool are counted before the seventh test
abbrev counts : tie.After-bad_count → tie.After-plan_count-n
counts c = c.before

abbrev passed-6 : tie.After-bad_count → tie.Else-bad_steps
passed-6 c = (counts c).before

abbrev passed-7 : tie.Else-bad_pool → tie.Else-bad_count
passed-7 c = c.before.before

abbrev passed-8 : tie.Else-bad_parents → tie.Else-bad_pool
passed-8 c = c.before.before

-- ---- the same from further on

-- where the directions' test has passed
abbrev first-3 : tie.Else-bad_divisions → tie.Else-bad_directions
first-3 c = passed-1 (passed-2 c)

abbrev first-4 : tie.Else-bad_operators → tie.Else-bad_directions
first-4 c = first-3 (passed-3 c)

abbrev first-5 : tie.Else-bad_bounds → tie.Else-bad_directions
first-5 c = first-4 (passed-4 c)

abbrev first-6 : tie.Else-bad_steps → tie.Else-bad_directions
first-6 c = first-5 (passed-5 c)

abbrev first-7 : tie.Else-bad_count → tie.Else-bad_directions
first-7 c = first-6 (passed-6 c.before)

abbrev first-8 : tie.Else-bad_pool → tie.Else-bad_directions
first-8 c = first-7 (passed-7 c)

abbrev first-9 : tie.Else-bad_parents → tie.Else-bad_directions
first-9 c = first-8 (passed-8 c)

-- where the size's has
abbrev second-5 : tie.Else-bad_bounds → tie.Else-bad_size
second-5 c = passed-2 (passed-3 (passed-4 c))

-- where that of the dimensions' bounds has
abbrev fifth-8 : tie.Else-bad_pool → tie.Else-bad_bounds
fifth-8 c = passed-5 (passed-6 (passed-7 c).before)

-- ---- what the tests say

good-directions : (c : tie.Else-bad_directions) → bad_directions (start c).args.directions.now ≡ false
good-directions c = sym c.bad_directions.ensures ∙ c.if-bad_directions.false

good-size : (c : tie.Else-bad_size) → bad_size (start (passed-1 c)).args.size ≡ false
good-size c = sym c.bad_size.ensures ∙ c.if-bad_size.false

good-bounds : (c : tie.Else-bad_bounds) → let o = ops (start (first-5 c)) in bad_bounds o.dims o.dim_count ≡ false
good-bounds c = sym c.bad_bounds.ensures ∙ c.if-bad_bounds.false

-- the pool's count
counted : (c : tie.After-bad_count) → let r = request (start (first-6 (passed-6 c))) in c.bad_count.result ≡ bad_count r.edition r.count
counted c = c.bad_count.ensures ∙ ap (bad_count (request (start (first-6 (passed-6 c)))).edition) (counts c).plan_count-n.ensures

slices : (c : tie.After-no_step_room) → let s = start (first-9 c.before) in c.no_step_room.result ≡ no_step_room (ops s) (request s) (room s) s.args.offspring
unfolding no_step_room
slices c =
    let s = start (first-9 c.before) in
    c.no_step_room.ensures
    ∙ ap (λ n. step_too_short (room s) s.args.offspring s.args.size n (ops s).dim_count) (counts (passed-7 (passed-8 c.before)).before).plan_count-n.ensures

past_1 : (c : tie.Else-bad_directions) → Past (start c) 1
unfolding step_refusal
past_1 c = passed_over _ _ (good-directions c)

past_2 : (c : tie.Else-bad_size) → Past (start (passed-1 c)) 2
past_2 c = past_1 (passed-1 c) ∙ passed_over _ _ (good-size c)

past_3 : (c : tie.Else-bad_divisions) → Past (start (first-3 c)) 3
past_3 c = past_2 (passed-2 c) ∙ passed_over _ _ (sym c.bad_divisions.ensures ∙ c.if-bad_divisions.false)

past_4 : (c : tie.Else-bad_operators) → Past (start (first-4 c)) 4
past_4 c = past_3 (passed-3 c) ∙ passed_over _ _ (sym c.bad_operators.ensures ∙ c.if-bad_operators.false)

past_5 : (c : tie.Else-bad_bounds) → Past (start (first-5 c)) 5
past_5 c = past_4 (passed-4 c) ∙ passed_over _ _ (good-bounds c)

past_6 : (c : tie.Else-bad_steps) → Past (start (first-6 c)) 6
past_6 c = past_5 (passed-5 c) ∙ passed_over _ _ (sym c.bad_steps.ensures ∙ c.if-bad_steps.false)

past_7 : (c : tie.Else-bad_count) → Past (start (first-7 c)) 7
past_7 c = past_6 (passed-6 c.before) ∙ passed_over _ _ (sym (counted c.before) ∙ c.if-bad_count.false)

past_8 : (c : tie.Else-bad_pool) → Past (start (first-8 c)) 8
unfolding bad_pool
past_8 c = past_7 (passed-7 c) ∙ passed_over _ _ (sym c.bad_pool.ensures ∙ c.if-bad_pool.false)

past_9 : (c : tie.Else-bad_parents) → Past (start (first-9 c)) 9
unfolding bad_parents
past_9 c = past_8 (passed-8 c) ∙ passed_over _ _ (sym c.bad_parents.ensures ∙ c.if-bad_parents.false)

past_10 : (c : tie.Else-no_step_room) → Past (start (first-9 c.before.before)) 10
past_10 c = past_9 c.before.before ∙ passed_over _ _ (sym (slices c.before) ∙ c.if-no_step_room.false)

-- ---- the needs

bad-directions-requires : tie.Need-bad_directions-requires
bad-directions-requires c κs = tt

returns : tie.Need-returns-then-bad_directions
unfolding step_refusal
returns c = sym (applies-first _ _ (sym c.bad_directions.ensures ∙ c.if-bad_directions.true))

bad-size-requires : tie.Need-bad_size-requires
bad-size-requires c κs = tt

returns-2 : tie.Need-returns-then-bad_size
returns-2 c = sym (past_1 c.before.before ∙ applies-first _ _ (sym c.bad_size.ensures ∙ c.if-bad_size.true))

bad-divisions-requires : tie.Need-bad_divisions-requires
bad-divisions-requires c κs = some-objectives _ (good-directions (passed-1 c))

returns-3 : tie.Need-returns-then-bad_divisions
returns-3 c = sym (past_2 c.before.before ∙ applies-first _ _ (sym c.bad_divisions.ensures ∙ c.if-bad_divisions.true))

bad-operators-requires : tie.Need-bad_operators-requires
bad-operators-requires c κs = tt

returns-4 : tie.Need-returns-then-bad_operators
returns-4 c = sym (past_3 c.before.before ∙ applies-first _ _ (sym c.bad_operators.ensures ∙ c.if-bad_operators.true))

bad-bounds-requires : tie.Need-bad_bounds-requires
bad-bounds-requires c κs = tt

returns-5 : tie.Need-returns-then-bad_bounds
returns-5 c = sym (past_4 c.before.before.before ∙ applies-first _ _ (sym c.bad_bounds.ensures ∙ c.if-bad_bounds.true))

bad-steps-requires : tie.Need-bad_steps-requires
bad-steps-requires c κs = few-bounds _ _ (good-bounds c)

returns-6 : tie.Need-returns-then-bad_steps
returns-6 c = sym (past_5 c.before.before ∙ applies-first _ _ (sym c.bad_steps.ensures ∙ c.if-bad_steps.true))

plan-count-requires : tie.Need-plan_count-n-requires
plan-count-requires c κs = tt

bad-count-requires : tie.Need-bad_count-requires
bad-count-requires c κs = tt

returns-7 : tie.Need-returns-then-bad_count
returns-7 c = sym (past_6 (passed-6 c.before) ∙ applies-first _ _ (sym (counted c.before) ∙ c.if-bad_count.true))

bad-pool-requires : tie.Need-bad_pool-requires
bad-pool-requires c κs = (some-objectives _ (good-directions (first-7 c))).1

returns-8 : tie.Need-returns-then-bad_pool
unfolding bad_pool
returns-8 c = sym (past_7 c.before.before ∙ applies-first _ _ (sym c.bad_pool.ensures ∙ c.if-bad_pool.true))

bad-parents-requires : tie.Need-bad_parents-requires
bad-parents-requires c κs = few-bounds _ _ (good-bounds (fifth-8 c))

returns-9 : tie.Need-returns-then-bad_parents
unfolding bad_parents
returns-9 c = sym (past_8 c.before.before ∙ applies-first _ _ (sym c.bad_parents.ensures ∙ c.if-bad_parents.true))

no-step-room-requires : tie.Need-no_step_room-requires
no-step-room-requires c κs =
    let d = fifth-8 (passed-8 c) in
    ((size-limits _ (good-size (second-5 d))).1, few-bounds _ _ (good-bounds d))

returns-10 : tie.Need-returns-then-no_step_room
returns-10 c = sym (past_9 c.before.before ∙ applies-first _ _ (sym (slices c.before) ∙ c.if-no_step_room.true))

returns-11 : tie.Need-returns
unfolding first_of
returns-11 c = sym (past_10 c)

pub refusal_spec : {M : Type 1} → statement M
refusal_spec =
    tie.close
    (tie.spec
    bad-directions-requires
    returns
    bad-size-requires
    returns-2
    bad-divisions-requires
    returns-3
    bad-operators-requires
    returns-4
    bad-bounds-requires
    returns-5
    bad-steps-requires
    returns-6
    plan-count-requires
    bad-count-requires
    returns-7
    bad-pool-requires
    returns-8
    bad-parents-requires
    returns-9
    no-step-room-requires
    returns-10
    returns-11)
