-- What a call leaves, from the answers of its parts.
use Prim.Native.Nat.{ℕ, ◌+◌, ◌-◌, ◌*◌, ◌≤◌, ◌<◌}
use mathlib.Core.Path.{◌≡◌, refl, sym, ap, ap₂, ◌∙◌, subst}
use mathlib.Core.Bool.{Bool, true, cond}
use mathlib.Core.List.{List, map}
use native.Mathlib.Omega.{arith}
use borrow.Author.Tests.{lt-ltb, le-ltb, le-leb, lt-leb}
use lib.Dec.{leb}
use lib.ListN.{length, get_or, set}
use Rattle.list_laws.proofs.Rows.{row_within}
use Rattle.list_laws.proofs.Below.{cond_lt, cond_le}
use Rattle.std.specs.Prelude.{Ok}
use Rattle.model.specs.declared.Distribution.{Distribution}
use Rattle.model.specs.declared.ParamValue.{ParamValue}
use Rattle.model.specs.declared.Session.{Session}
use Rattle.model.specs.Lists.{over, place_in}
use Rattle.model.specs.Draw.{Drawn, drawn}
use Rattle.model.specs.Setting.{max_dims, kind_of_dimension, to_word, of_word, sample_random, sample_all, sample_candidates, words_of}
use Rattle.model.specs.Session.{State, Answered, state, progress, dimension_of, with_rng, with_progress, renewed, discover, activate, overflow, enter, enlist, answer, is_new, plans_of, sample_from_candidate, entered, max_come, max_words}
use Rattle.model.specs.Calls.{settled}
use lib.Seq.{sets}
use Rattle.session_steps.specs.Exits.{exit, Ready}
use Rattle.session_laws.proofs.Steps.{enlist-by}
use Rattle.session_records.proofs.Records.{is_new-by}

-- ---- discovery

module _ (s : Session) (d : Distribution) (plan : ℕ) where
  pub discover_is : (v : ParamValue) (g : ℕ) (cs ps ns pool : List ℕ) → drawn v g ≡ sample_random d s.rng.s
      → exit (record { outcome = Ok v; session = entered s d plan g }) cs ps ns pool ≡ settled (discover (state s cs ps ns pool) d plan)
  unfolding discover
  discover_is v g cs ps ns pool e = ap (λ (x : Drawn ParamValue). exit (record { outcome = Ok x.value; session = entered s d plan x.state }) cs ps ns pool) e

module _ (s : Session) where
  abbrev first_ones : Drawn (List (List ParamValue))
  first_ones = sample_candidates (dimension_of s) s.progress.n_dims s.config.population_size s.rng.s

  pub activate_is : (u : Session) (g : ℕ) (cs ps ns pool after : List ℕ) → u ≡ renewed s g s.ideal_point s.progress.n_waiting s.progress.n_remembered s.progress.generation
      → after ≡ over (words_of first_ones.value) cs → g ≡ first_ones.state → state u after ps ns pool ≡ activate (state s cs ps ns pool)
  unfolding activate
  activate_is u g cs ps ns pool after k e f =
      ap₂ (λ (x : Session) (y : List ℕ). state x y ps ns pool) (k ∙ ap (λ (x : ℕ). renewed s x s.ideal_point s.progress.n_waiting s.progress.n_remembered s.progress.generation) f) e

-- ---- a plan's calls past discovery

-- a candidate fits where there are fewer than may come
pub fits_more : {k n len : ℕ} → k < max_come → n ≤ max_dims → max_words ≤ len → k * n + n ≤ len
fits_more {k} {n} {len} h i l = row_within k max_come n len h (omega arith)

pub overflow_is : (s : Session) (c : List ParamValue) (g : ℕ) (cs ps ns pool after : List ℕ) (t u : Session)
    → drawn c g ≡ sample_all (dimension_of s) s.progress.n_dims s.rng.s
    → after ≡ sets cs (s.progress.n_candidates * s.progress.n_dims) (map to_word c)
    → t ≡ with_rng s g → u ≡ with_progress t (progress s.progress.n_dims (s.progress.n_candidates + 1) s.progress.n_plans s.progress.n_waiting s.progress.n_remembered s.progress.generation)
    → state u after ps ns pool ≡ overflow (state s cs ps ns pool)
unfolding overflow
overflow_is s c g cs ps ns pool after t u e f h k =
    let more = progress s.progress.n_dims (s.progress.n_candidates + 1) s.progress.n_plans s.progress.n_waiting s.progress.n_remembered s.progress.generation in
    let at = s.progress.n_candidates * s.progress.n_dims in
    ap₂ (λ (x : Session) (y : List ℕ). state x y ps ns pool) (k ∙ ap (λ (x : Session). with_progress x more) h) f
    ∙ ap (λ (x : Drawn (List ParamValue)). state (with_progress (with_rng s x.state) more) (sets cs at (map to_word x.value)) ps ns pool) e

pub enter_is : (s : Session) (plan : ℕ) (cs ps ns pool : List ℕ) (u : Session)
    → u ≡ with_progress s (progress s.progress.n_dims s.progress.n_candidates (s.progress.n_plans + 1) s.progress.n_waiting s.progress.n_remembered s.progress.generation)
    → state u cs (set ps s.progress.n_plans plan) (set ns s.progress.n_plans 0) pool ≡ enter (state s cs ps ns pool) plan
unfolding enter
enter_is s plan cs ps ns pool u e = ap (λ (x : Session). state x cs (set ps s.progress.n_plans plan) (set ns s.progress.n_plans 0) pool) e

pub enlist-next : (st : State) (plan : ℕ) → st.session.progress.n_plans < st.session.progress.n_candidates → enter st plan ≡ enlist st plan
unfolding enlist
enlist-next st plan h = ap (λ (x : State). enter x plan) (sym (cond_lt _ _ st (overflow st) h))

pub enlist-over : (st : State) (plan : ℕ) → st.session.progress.n_candidates ≤ st.session.progress.n_plans → enter (overflow st) plan ≡ enlist st plan
unfolding enlist
enlist-over st plan h = ap (λ (x : State). enter x plan) (sym (cond_le _ _ st (overflow st) h))

overflow-plans : (st : State) → (overflow st).session.progress.n_plans ≡ st.session.progress.n_plans
unfolding overflow
overflow-plans st = refl

pub overflowed_plans : (st : State) (u : Session) (cs ps ns pool : List ℕ) → state u cs ps ns pool ≡ overflow st → u.progress.n_plans ≡ st.session.progress.n_plans
overflowed_plans st u cs ps ns pool e = ap (λ (x : State). x.session.progress.n_plans) e ∙ overflow-plans st

-- a plan more leaves a state that can be drawn from
pub enlisted_ready : (st : State) (plan : ℕ) (u : Session) (cs ps ns pool : List ℕ) → Ready st.session → state u cs ps ns pool ≡ enlist st plan → Ready u
unfolding enter overflow
enlisted_ready st plan u cs ps ns pool r e =
    let ready : State → Type 0 = λ x. Ready x.session in
    subst ready (sym e) (enlist-by ready st plan (λ h. record { dims = r.dims; some = r.some }) (λ h. record { dims = r.dims; some = r.some }))

-- ---- answers

module _ (s : Session) (i : ℕ) (cs ps ns pool : List ℕ) where
  abbrev asked : ℕ
  asked = get_or ns i 0

  abbrev kind : ℕ
  kind = kind_of_dimension (dimension_of s asked)

  abbrev word : ℕ
  word = get_or cs (i * s.progress.n_dims + asked) 0

  pub answer-stored : (v : ParamValue) (k : ℕ) → asked < s.progress.n_dims → v ≡ of_word k word → k ≡ kind
      → exit (record { outcome = Ok v; session = s }) cs ps (set ns i (asked + 1)) pool ≡ settled (answer (state s cs ps ns pool) i)
  unfolding answer
  answer-stored v k h e f =
      rw (lt-ltb asked s.progress.n_dims h)
      (ap (λ (x : ParamValue). exit (record { outcome = Ok x; session = s }) cs ps (set ns i (asked + 1)) pool) (e ∙ ap (λ (x : ℕ). of_word x word) f))

  pub answer-drawn : (v : ParamValue) (g : ℕ) (u : Session) → s.progress.n_dims ≤ asked
      → drawn v g ≡ sample_random (dimension_of s (s.progress.n_dims - 1)) s.rng.s → u ≡ with_rng s g
      → exit (record { outcome = Ok v; session = u }) cs ps ns pool ≡ settled (answer (state s cs ps ns pool) i)
  unfolding answer
  answer-drawn v g u h e f =
      rw (le-ltb asked s.progress.n_dims h)
      (ap (λ (x : Session). exit (record { outcome = Ok v; session = x }) cs ps ns pool) f
      ∙ ap (λ (x : Drawn ParamValue). exit (record { outcome = Ok x.value; session = with_rng s x.state }) cs ps ns pool) e)

-- ---- a plan by its number

module _ (st : State) (plan i : ℕ) (room : st.session.progress.n_plans ≤ length st.plans) (e : i ≡ place_in (plans_of st) plan) where
  abbrev count : ℕ
  count = st.session.progress.n_plans

  abbrev by_new : Bool → Answered
  by_new b = cond b (answer (enlist st plan) count) (answer st (place_in (plans_of st) plan))

  test : is_new st plan ≡ leb count i
  test = is_new-by st.plans count plan i room e

  pub is_new_lem : count ≤ i → is_new st plan ≡ true
  is_new_lem h = test ∙ le-leb count i h

  pub known_plan : i < count → answer st i ≡ sample_from_candidate st plan
  unfolding sample_from_candidate
  known_plan h = ap (answer st) e ∙ ap by_new (sym (test ∙ lt-leb count i h))

  pub new_plan : count ≤ i → answer (enlist st plan) count ≡ sample_from_candidate st plan
  unfolding sample_from_candidate
  new_plan h = ap by_new (sym (is_new_lem h))
