-- What 24 turns down, and what two greatest numbers answer below both, one test after the other.
use Prim.Native.Nat.{ℕ, ◌+◌, ◌*◌, ◌≤◌, ◌<◌, min}
use mathlib.Core.Path.{◌≡◌, refl, sym, ap, ap₂, ◌∙◌}
use mathlib.Core.Bool.{Bool, true, false, not, ◌&&◌, ◌||◌}
use mathlib.Core.List.{List}
use Rattle.std.specs.Prelude.{Some}
use native.Mathlib.Nat.{min-eq_left, min-le_right}
use native.Mathlib.Omega.{arith}
use borrow.Author.Tests.{lt-ltb, le-ltb, le-leb, lt-leb}
use lib.Dec.{leb, ltb}
use Rattle.model.specs.declared.Refusal.TheVariants as why
use Rattle.model.specs.declared.Distribution.{Distribution}
use Rattle.model.specs.Lists.{all_below, list_below}
use Rattle.model.specs.Real.{real}
use Rattle.model.specs.Plan.{Plan, setting_in, plan_up_to, plan_of, max_objectives, max_constraints, max_settings}
use Rattle.model.specs.Association.{Request}
use Rattle.model.specs.Setting.{max_dims, valid_bounds, sort_by_param, Operators}
use Rattle.model.specs.Session.{State, discovers}
use Rattle.model.specs.Refusal.{Room, check, first_of, bad_bounds, bad_bounds_past, bad_next, bad_next_past, named_once, fits_at, breedable, breedable_past, bad_parents, some_fails, step_checks_by, step_refusal, sample_refusal}
use Rattle.list_laws.proofs.Tests.{all_below_no, all_below-same}
use Rattle.list_laws.proofs.Built.{list_below-same}
use Rattle.limit_laws.specs.Limit.{step_refusal_past}

-- ---- 24 and 25

pub dimensions_over : (dims : ℕ → Distribution) (n : ℕ) → 24 < n → bad_bounds dims n ≡ true
unfolding bad_bounds
dimensions_over dims n h = rw (lt-ltb max_dims n (omega arith))

pub dimensions_within : (dims : ℕ → Distribution) (n : ℕ) → n ≤ 24 → bad_bounds dims n ≡ not (all_below (λ d. valid_bounds (dims d)) n)
unfolding bad_bounds
dimensions_within dims n h = rw (le-ltb max_dims n (omega arith))

pub next_over : (n : ℕ) (d : Distribution) → 24 ≤ n → bad_next n d ≡ true
next_over n d h = rw (le-leb max_dims n (omega arith))

pub next_within : (n : ℕ) (d : Distribution) → n < 24 → bad_next n d ≡ not (valid_bounds d)
next_within n d h = rw (lt-leb max_dims n (omega arith))

pub session-over : (st : State) (d : Distribution) (plan : ℕ) (history : List ℕ) → discovers st plan ≡ true → 24 ≤ st.session.progress.n_dims
    → sample_refusal st d plan history ≡ Some why.Bounds
unfolding sample_refusal first_of
session-over st d plan history e h = rw (e, le-leb max_dims st.session.progress.n_dims (omega arith))

pub settings_over : (dims : ℕ → Distribution) (n : ℕ) (p : Plan) → 24 < p.setting_count → breedable dims n p ≡ false
unfolding breedable
settings_over dims n p h = rw (lt-leb p.setting_count max_settings (omega arith))

pub settings_within : (dims : ℕ → Distribution) (n : ℕ) (p : Plan) → p.setting_count ≤ 24
    → breedable dims n p ≡ (named_once p.settings && all_below (fits_at dims (sort_by_param p.settings)) n)
unfolding breedable
settings_within dims n p h = rw (le-leb p.setting_count max_settings (omega arith))

pub pool_over : (o : Operators) (r : Request) (i : ℕ) → i < r.count → 24 < (r.plans i).setting_count → bad_parents o r ≡ true
unfolding bad_parents
pool_over o r i h k =
    ap not (all_below_no (λ p. breedable o.dims o.dim_count (r.plans p)) r.count i h (settings_over o.dims o.dim_count (r.plans i) k))

pub words-by_24 : (word : ℕ → ℕ) → plan_of word ≡ plan_up_to 24 word
unfolding plan_of
words-by_24 word = refl

pub step-by_24 : (o : Operators) (r : Request) (room : Room) (offspring : ℕ) → step_refusal o r room offspring ≡ step_refusal_past 24 o r room offspring
unfolding step_refusal bad_bounds bad_parents breedable
step-by_24 o r room offspring = refl

-- ---- two numbers

module _ (a b : ℕ) where
  pub dimensions_agree : (dims : ℕ → Distribution) (n : ℕ) → n ≤ a → n ≤ b → bad_bounds_past a dims n ≡ bad_bounds_past b dims n
  dimensions_agree dims n h k = ap (λ (x : Bool). x || not (all_below (λ d. valid_bounds (dims d)) n)) (le-ltb a n h ∙ sym (le-ltb b n k))

  pub next_agree : (n : ℕ) (d : Distribution) → n < a → n < b → bad_next_past a n d ≡ bad_next_past b n d
  next_agree n d h k = ap (λ (x : Bool). x || not (valid_bounds d)) (lt-leb a n h ∙ sym (lt-leb b n k))

  pub parent_agrees : (dims : ℕ → Distribution) (n : ℕ) (p : Plan) → p.setting_count ≤ a → p.setting_count ≤ b
      → breedable_past a dims n p ≡ breedable_past b dims n p
  parent_agrees dims n p h k =
      ap (λ (x : Bool). x && (named_once p.settings && all_below (fits_at dims (sort_by_param p.settings)) n))
      (le-leb p.setting_count a h ∙ sym (le-leb p.setting_count b k))

  pub plan_agrees : (f g : ℕ → ℕ) → f 27 ≤ a → f 27 ≤ b → ((j : ℕ) → j < 28 + 3 * f 27 → f j ≡ g j) → plan_up_to a f ≡ plan_up_to b g
  plan_agrees f g h k e =
      let r = min-le_right (g 1) max_objectives in
      let c = min-le_right (g 10) max_constraints in
      let n : f 27 ≡ g 27 = e 27 (omega arith) in
      let in-a : min (f 27) a ≡ f 27 = min-eq_left h in
      let in_b : min (f 27) b ≡ f 27 = min-eq_left k in
      rw (
        e 0 (omega arith),
        e 1 (omega arith),
        e 10 (omega arith),
        in-a,
        sym (ap (λ (t : ℕ). min t b) n) ∙ in_b,
        sym n,
        list_below-same (λ j. real (f (2 + j))) (λ j. real (g (2 + j))) (min (g 1) max_objectives) (λ t l. ap real (e (2 + t) (omega arith))),
        list_below-same (λ j. real (f (11 + j))) (λ j. real (g (11 + j))) (min (g 10) max_constraints) (λ t l. ap real (e (11 + t) (omega arith))),
        list_below-same (setting_in f) (setting_in g) (f 27) (λ t l. rw (e (28 + 3 * t) (omega arith), e (29 + 3 * t) (omega arith), e (30 + 3 * t) (omega arith))),
      )

  pub step_agrees : (o : Operators) (r : Request) (room : Room) (offspring : ℕ) → o.dim_count ≤ a → o.dim_count ≤ b
      → ((i : ℕ) → i < r.count → ((r.plans i).setting_count ≤ a) × ((r.plans i).setting_count ≤ b))
      → step_refusal_past a o r room offspring ≡ step_refusal_past b o r room offspring
  step_agrees o r room offspring h k e =
      ap₂ (λ (x y : Bool). first_of (step_checks_by x y o r room offspring))
      (dimensions_agree o.dims o.dim_count h k)
      (ap not (all_below-same (λ p. breedable_past a o.dims o.dim_count (r.plans p)) (λ p. breedable_past b o.dims o.dim_count (r.plans p)) r.count
      (λ i l. parent_agrees o.dims o.dim_count (r.plans i) (e i l).0 (e i l).1)))
