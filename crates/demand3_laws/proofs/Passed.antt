-- A call that meets no refusal passes each test, and what each test rules out.
use Prim.Native.Nat.{ℕ, ◌≤◌, ◌<◌}
use mathlib.Core.Path.{◌≡◌}
use mathlib.Core.Bool.{true, false, not, ◌&&◌, ◌||◌}
use mathlib.Core.List.{List}
use Rattle.std.specs.Prelude.{None}
use native.Mathlib.Omega.{arith}
use lib.Dec.{eqb, leb, ltb}
use lib.ListN.{length}
use borrow.Author.Tests.{eqb-false, leb-true, ltb-false, not-false}
use Rattle.model.specs.declared.Distribution.{Distribution}
use Rattle.model.specs.declared.Edition.{Edition}
use Rattle.model.specs.Edition.{most_plans}
use Rattle.model.specs.Plan.{max_objectives}
use Rattle.model.specs.Association.{Request, objectives}
use Rattle.model.specs.Setting.{Operators}
use Rattle.model.specs.Session.{State, discovers, breeds, is_new, long_enough, request_of, operators_of, max_come}
use Rattle.model.specs.Refusal.{Room, max_size, max_pool, bad_directions, bad_size, bad_divisions, bad_operators, bad_bounds, bad_steps, bad_count, bad_pool, bad_parents, no_room, no_step_room, bad_next, bad_next_step, bad_history, select_refusal, step_refusal, sample_refusal}
use Rattle.list_laws.proofs.Bools.{or_left, or_right, and_left, and_right}
use Rattle.list_laws.proofs.Checks.{applies-at}
use Rattle.list_laws.proofs.Limits.{edition-in_pool}

-- ---- what each test rules out

pub some-objectives : (marks : List ℕ) → bad_directions marks ≡ false → (1 ≤ length marks) × (length marks ≤ max_objectives)
unfolding bad_directions
some-objectives marks h =
    let e = not-false _ (or_left _ _ h) in
    (leb-true 1 (length marks) (and_left _ _ e), leb-true (length marks) max_objectives (and_right (leb 1 (length marks)) _ e))

-- a number that is neither 0 nor above a limit
one-to : (most n : ℕ) → (eqb n 0 || ltb most n) ≡ false → (0 < n) × (n ≤ most)
one-to most n e =
    let h = eqb-false n 0 (or_left (eqb n 0) (ltb most n) e) in
    (omega arith, ltb-false most n (or_right (eqb n 0) (ltb most n) e))

-- a size is 1 to the most that may be wanted
pub size-limits : (size : ℕ) → bad_size size ≡ false → (0 < size) × (size ≤ max_size)
size-limits size e = one-to max_size size e

-- a pool's count is 1 to the most that a pool of its edition may have, and so of either
pub count-limits : (edition : Edition) (n : ℕ) → bad_count edition n ≡ false → (0 < n) × (n ≤ most_plans edition)
count-limits edition n e = one-to (most_plans edition) n e

pub count-in_pool : (edition : Edition) (n : ℕ) → bad_count edition n ≡ false → n ≤ max_pool
count-in_pool edition n e = omega (arith, (count-limits edition n e).1, edition-in_pool edition)

-- each lent slice has room
pub room-each : (r : Request) (room : Room) → no_room r room ≡ false
    → (r.size ≤ room.kept) × (r.size ≤ room.rules) × (r.count ≤ room.fronts) × (r.count ≤ room.lines)
unfolding no_room
room-each r room e =
    let past-kept = or_right (ltb room.kept r.size) _ e in
    let past-rules = or_right (ltb room.rules r.size) _ past-kept in (
      ltb-false room.kept r.size (or_left _ _ e),
      ltb-false room.rules r.size (or_left _ _ past-kept),
      ltb-false room.fronts r.count (or_left _ _ past-rules),
      ltb-false room.lines r.count (or_right (ltb room.fronts r.count) _ past-rules),
    )

-- ---- a selection

pub record SelectPassed (r : Request) (room : Room) : Type 0 where
  pub directions : bad_directions r.marks ≡ false
  pub size : bad_size r.size ≡ false
  pub divisions : bad_divisions (objectives r) r.divisions ≡ false
  pub count : bad_count r.edition r.count ≡ false
  pub pool : bad_pool r ≡ false
  pub slices : no_room r room ≡ false

pub select_passed : (r : Request) (room : Room) → select_refusal r room ≡ None → SelectPassed r room
unfolding select_refusal
select_passed r room e = record {
  directions = applies-at _ 0 e;
  size = applies-at _ 1 e;
  divisions = applies-at _ 2 e;
  count = applies-at _ 3 e;
  pool = applies-at _ 4 e;
  slices = applies-at _ 5 e;
}

-- ---- a generation step

pub record Passed (o : Operators) (r : Request) (room : Room) (offspring : ℕ) : Type 0 where
  pub directions : bad_directions r.marks ≡ false
  pub size : bad_size r.size ≡ false
  pub divisions : bad_divisions (objectives r) r.divisions ≡ false
  pub operators : bad_operators o.probability o.crossover_eta_of o.mutation_eta_of ≡ false
  pub bounds : bad_bounds o.dims o.dim_count ≡ false
  pub steps : bad_steps o.dims o.dim_count ≡ false
  pub count : bad_count r.edition r.count ≡ false
  pub pool : bad_pool r ≡ false
  pub parents : bad_parents o r ≡ false
  pub slices : no_step_room o r room offspring ≡ false

pub passed : (o : Operators) (r : Request) (room : Room) (offspring : ℕ) → step_refusal o r room offspring ≡ None → Passed o r room offspring
unfolding step_refusal
passed o r room offspring e = record {
  directions = applies-at _ 0 e;
  size = applies-at _ 1 e;
  divisions = applies-at _ 2 e;
  operators = applies-at _ 3 e;
  bounds = applies-at _ 4 e;
  steps = applies-at _ 5 e;
  count = applies-at _ 6 e;
  pool = applies-at _ 7 e;
  parents = applies-at _ 8 e;
  slices = applies-at _ 9 e;
}

-- ---- a session call

pub record SamplePassed (st : State) (d : Distribution) (plan : ℕ) (history : List ℕ) : Type 0 where
  pub dimension : (discovers st plan && bad_next st.session.progress.n_dims d) ≡ false
  pub step : (discovers st plan && bad_next_step d) ≡ false
  pub records : bad_history history ≡ false
  pub pool : (breeds st history && bad_pool (request_of st history)) ≡ false
  pub parents : (breeds st history && bad_parents (operators_of st.session) (request_of st history)) ≡ false
  pub slices : long_enough st ≡ true
  pub come : (leb max_come st.session.progress.n_plans && (is_new st plan && not (breeds st history))) ≡ false

pub sample_passed : (st : State) (d : Distribution) (plan : ℕ) (history : List ℕ) → sample_refusal st d plan history ≡ None → SamplePassed st d plan history
unfolding sample_refusal
sample_passed st d plan history e = record {
  dimension = applies-at _ 0 e;
  step = applies-at _ 1 e;
  records = applies-at _ 2 e;
  pool = applies-at _ 3 e;
  parents = applies-at _ 4 e;
  slices = not-false _ (applies-at _ 5 e);
  come = applies-at _ 6 e;
}
