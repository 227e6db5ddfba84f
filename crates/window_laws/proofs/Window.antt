-- THE IDEAL OVER A RUN (document 02, M-109): after each generation it is the least worked out from the pools of the last w generations, and of all where the run is
-- no longer than the window; and it is the one that a selection uses.
use Prim.Native.Nat.{ℕ, suc, ◌+◌, ◌-◌, ◌*◌, ◌≤◌, ◌<◌, min}
use mathlib.Core.Path.{◌≡◌, refl, sym, ap, ap₂, subst, ◌∙◌}
use mathlib.Core.Bool.{true, false}
use mathlib.Core.List.{List, [], ◌∷◌, ◌++◌, append-nil}
use Rattle.list_laws.proofs.Options.{some-ne-none}
use Rattle.std.specs.Prelude.{Option, None, Some, Ok}
use native.Mathlib.Nat.{zero-mul}
use native.Mathlib.Omega.{arith}
use borrow.Author.Tests.{leb-true, not-false}
use lib.Ieee.{Float, nan, lt}
use lib.ListN.{length, get_or, take, length-append}
use lib.Seq.{get_or-take}
use Rattle.list_laws.proofs.Best.{best_same}
use Rattle.list_laws.proofs.Bools.{and_left, and_fails, by_bool}
use Rattle.list_laws.proofs.Built.{list_below_none, list_below-length, list_below-at, list_below-same, over-take, over_below, over-long, take-replicate, repeated}
use Rattle.list_laws.proofs.Rows.{row_lt}
use Rattle.model.specs.declared.Refusal.{Refusal}
use Rattle.model.specs.declared.Config.{Config}
use Rattle.model.specs.declared.Distribution.{Distribution}
use Rattle.model.specs.declared.Edition.{Edition}
use Rattle.model.specs.declared.Opened.{Opened}
use Rattle.model.specs.declared.Session.{Session}
use Rattle.model.specs.Lists.{best_from, list_below, over}
use Rattle.model.specs.Real.{real, infinity}
use Rattle.model.specs.Plan.{plan_words, max_objectives}
use Rattle.model.specs.Edition.{waiting_of}
use Rattle.model.specs.Association.{Request, objectives, value_of, shapers, least_from, ideal_of}
use Rattle.model.specs.Kept.{Selected}
use Rattle.model.specs.Setting.{generation}
use Rattle.model.specs.Window.{most_remembered, own_words, last_of, least_remembered, ideal_after}
use Rattle.model.specs.Session.{State, state, opened, is_active, discovers, discover, activate, breeds, breed, bred_from, request_of, operators_of, sample_from_candidate, accepted, kept_words, memory_at, memory_in, memory_after, remembered_after, start_by, start_ideal}
use Rattle.model.specs.Refusal.{open_refusal, sample_refusal, bad_pool, bad_window}
use Rattle.model.specs.Property.{SessionOk}
use Rattle.model.specs.Calls.{open_by, open_of, refused_by, SampleExit, sample_by, sample_of}
use Rattle.demand3_laws.proofs.Passed.{some-objectives, sample_passed}
use Rattle.demand3_laws.proofs.Calls.{request-objectives, request-accepted}
use Rattle.session_laws.proofs.Request.{breeds_active, active_discovers}
use Rattle.session_laws.proofs.Steps.{Long, long, Untouched, sampled_leaves}
use Rattle.session_laws.proofs.Window.{memory_stands, after-fits, own_back, objectives-few}
use Rattle.window_laws.specs.Run.{least_over, pool_by, pool_of, Run, begun, called}
use Rattle.window_laws.proofs.Least.{over_snoc}
use Rattle.window_laws.proofs.Parts.{last-length, last-all, last_snoc, last-last, Fine, AllFine, fine_snoc, fine_drop, parts_of, parts_snoc, parts_last, parts_least}

-- ---- what ties a state to the pools bred from

pub record Kept (w : ℕ) (pools : List Request) (st : State) : Type 0 where
  pub window : st.session.config.window ≡ Some w
  pub fine : AllFine st.session.config.n_obj pools
  pub count : st.session.progress.n_remembered ≡ length (last_of (w - 1) pools)
  pub memory : memory_in st.session st.pool ≡ parts_of (last_of (w - 1) pools)
  pub ideal : take st.session.config.n_obj st.session.ideal_point ≡ list_below (least_over infinity (last_of w pools)) st.session.config.n_obj

-- ---- a call that does not breed

-- what is remembered, by what it depends on
abbrev memory_by : Config → ℕ → List ℕ → List ℕ
memory_by c n pool = list_below (λ i. get_or pool (memory_at c + i) 0) (n * c.n_obj)

module _ (w : ℕ) (pools : List Request) (st x : State) (k : Kept w pools st) (u : Untouched st x) where
  pub kept_on : Kept w pools x
  kept_on = record {
    window = ap (λ (c : Config). c.window) u.config ∙ k.window;
    fine = subst (λ (c : Config). AllFine c.n_obj pools) (sym u.config) k.fine;
    count = u.remembered ∙ k.count;
    memory = ap (λ (c : Config). memory_by c x.session.progress.n_remembered x.pool) u.config
        ∙ ap₂ (λ (n : ℕ) (p : List ℕ). memory_by st.session.config n p) u.remembered u.pool ∙ k.memory;
    ideal = ap₂ (λ (c : Config) (i : List Float). take c.n_obj i) u.config u.ideal ∙ k.ideal
        ∙ ap (λ (c : Config). list_below (least_over infinity (last_of w pools)) c.n_obj) (sym u.config);
  }

-- ---- a call that breeds

-- what is remembered afterwards stands where it is looked for
pub memory_bred : (st : State) (history : List ℕ) → SessionOk st → Long st → memory_in (breed st history).session (breed st history).pool ≡ memory_after st.session st.pool (request_of st history)
unfolding breed
memory_bred st history ok long =
    let s = st.session in
    let r = request_of st history in
    let same = request-objectives st history ok in
    let bred = bred_from st history in
    let words = kept_words bred (generation (operators_of s) r).selection.kept (waiting_of s.config.edition s.config.population_size) in
    memory_stands s st.pool r same (over words (over bred st.pool))
    (omega (arith, long.pool, after-fits s st.pool r same, over-long bred st.pool, over-long words (over bred st.pool)))

module _ (w : ℕ) (pools : List Request) (st : State) (history : List ℕ) (k : Kept w pools st) (ok : SessionOk st) (long : Long st) (pool : bad_pool (request_of st history) ≡ false) where
  abbrev s : Session
  s = st.session

  abbrev r : Request
  r = request_of st history

  abbrev m : ℕ
  m = s.config.n_obj

  -- the pools remembered, and those of the window with the present one
  abbrev before : List Request
  before = last_of (w - 1) pools

  same : objectives r ≡ m
  same = request-objectives st history ok

  few : objectives r ≤ max_objectives
  few = (some-objectives r.marks (request-accepted st history ok pool).directions).1

  at_least : 1 ≤ w
  at_least = leb-true 1 w (and_left _ _ (not-false _ (ap (λ (o : Option ℕ). bad_window o) (sym k.window) ∙ ok.config.window)))

  within : last_of w (pools ++ (r ∷ [])) ≡ before ++ (r ∷ [])
  within = let e : w ≡ suc (w - 1) = omega (arith, at_least) in ap (λ (n : ℕ). last_of n (pools ++ (r ∷ []))) e ∙ last_snoc (w - 1) pools r

  fine_before : AllFine m before
  fine_before = fine_drop m (length pools - (w - 1)) pools k.fine

  fine_now : Fine m r
  fine_now = record { same = same; back = own_back r (λ p j. get_or (bred_from st history) (p * plan_words + j) 0) (λ p. refl) few pool }

  -- a word of what is remembered
  word_at : (g j : ℕ) → g < s.progress.n_remembered → j < m → get_or st.pool (memory_at s.config + (g * m + j)) 0 ≡ get_or (parts_of before) (g * m + j) 0
  word_at g j h l =
      sym (ap (λ (x : List ℕ). get_or x (g * m + j) 0) (sym k.memory)
      ∙ list_below-at (λ i. get_or st.pool (memory_at s.config + i) 0) (s.progress.n_remembered * m) 0 (g * m + j) (row_lt g j s.progress.n_remembered m h l))

  -- the least of it, from which the selection starts
  started : (j : ℕ) → j < m → least_remembered st.pool (memory_at s.config) m s.progress.n_remembered j ≡ least_over infinity before j
  started j l =
      best_same lt infinity _ _ s.progress.n_remembered (λ g h. ap real (word_at g j h l))
      ∙ ap (best_from lt infinity (λ g. real (get_or (parts_of before) (g * m + j) 0))) k.count ∙ parts_least m infinity before j fine_before l

  start_is : (j : ℕ) → j < m → get_or r.ideal j nan ≡ least_over infinity before j
  unfolding start_ideal
  start_is j l =
      get_or-take m (start_ideal s st.pool) j nan l ∙ ap (λ (o : Option ℕ). get_or (start_by o s st.pool) j nan) k.window
      ∙ over_below (least_remembered st.pool (memory_at s.config) m s.progress.n_remembered) m (start_by (Some w) s st.pool) s.ideal_point j nan refl l ∙ started j l

  -- THE IDEAL THAT THE SELECTION USES: "the least value per objective over the pools of the last w generations, the present one included"
  pub ideal_used : (j : ℕ) → j < m → ideal_of r j ≡ least_over infinity (last_of w (pools ++ (r ∷ []))) j
  unfolding ideal_of
  ideal_used j l =
      ap (λ (b : Float). least_from b (λ p. value_of r p j) (shapers r)) (start_is j l) ∙ sym (over_snoc infinity before r j)
      ∙ sym (ap (λ (rs : List Request). least_over infinity rs j) within)

  -- what the session has afterwards
  ideal-left : (sel : Selected) → take m (over (ideal_after s.config.window r sel) s.ideal_point) ≡ list_below (least_over infinity (last_of w (pools ++ (r ∷ [])))) m
  ideal-left sel =
      ap (λ (o : Option ℕ). take m (over (ideal_after o r sel) s.ideal_point)) k.window
      ∙ over-take (list_below (ideal_of r) (objectives r)) s.ideal_point m (list_below-length (ideal_of r) (objectives r) ∙ same)
      ∙ ap (list_below (ideal_of r)) same ∙ list_below-same (ideal_of r) _ m ideal_used

  memory_left : memory_after s st.pool r ≡ parts_of (last_of (w - 1) (pools ++ (r ∷ [])))
  unfolding memory_after
  memory_left =
      ap (λ (o : Option ℕ). last_of (most_remembered o * m) (memory_in s st.pool ++ own_words r)) k.window
      ∙ ap (λ (x : List ℕ). last_of ((w - 1) * m) (x ++ own_words r)) k.memory ∙ ap (last_of ((w - 1) * m)) (sym (parts_snoc before r))
      ∙ sym (parts_last m (w - 1) (before ++ (r ∷ [])) (fine_snoc m before r fine_before fine_now)) ∙ ap parts_of (last-last (w - 1) pools r)

  count_left : remembered_after s ≡ length (last_of (w - 1) (pools ++ (r ∷ [])))
  count_left =
      ap (λ (o : Option ℕ). min (s.progress.n_remembered + 1) (most_remembered o)) k.window
      ∙ omega (arith, k.count, last-length (w - 1) pools, last-length (w - 1) (pools ++ (r ∷ [])), length-append pools (r ∷ []))

  pub kept-bred : Kept w (pools ++ (r ∷ [])) (breed st history)
  unfolding breed
  kept-bred =
      record {
        window = k.window;
        fine = fine_snoc m pools r k.fine fine_now;
        count = count_left;
        memory = memory_bred st history ok long ∙ memory_left;
        ideal = ideal-left (generation (operators_of s) r).selection;
      }

-- ---- a call

discover_leaves : (st : State) (d : Distribution) (plan : ℕ) → Untouched st (discover st d plan).after
unfolding discover
discover_leaves st d plan = record { config = refl; waits = refl; remembered = refl; ideal = refl; pool = refl }

activate_leaves : (st : State) → Untouched st (activate st)
unfolding activate
activate_leaves st = record { config = refl; waits = refl; remembered = refl; ideal = refl; pool = refl }

module _ (w : ℕ) (pools : List Request) (st : State) (d : Distribution) (plan : ℕ) (history : List ℕ) (k : Kept w pools st) (ok : SessionOk st) where
  -- what an answer leaves
  sampled : (x : State) (rs : List Request) → Kept w rs x → Kept w rs (sample_from_candidate x plan).after
  sampled x rs h = kept_on w rs x _ h (sampled_leaves x plan)

  -- not bred, by whether it adds a dimension and is past discovery
  unbred : breeds st history ≡ false → Kept w pools (accepted st d plan history).after
  unfolding accepted
  unbred b = by_bool (discovers st plan)
      (λ e. rw e (kept_on w pools st _ k (discover_leaves st d plan)))
      (λ e. by_bool (is_active st.session)
      (λ a. rw (e, a, b) (sampled st pools k))
      (λ a. rw (e, a) (sampled (activate st) pools (kept_on w pools st _ k (activate_leaves st)))))

  bred : sample_refusal st d plan history ≡ None → breeds st history ≡ true → Kept w (pools ++ (request_of st history ∷ [])) (accepted st d plan history).after
  unfolding accepted
  bred e b =
      let a = breeds_active st history b in
      let p = sample_passed st d plan history e in
      rw (active_discovers st plan a, a, b)
      (sampled (breed st history) (pools ++ (request_of st history ∷ []))
      (kept-bred w pools st history k ok (long st p.slices) (and_fails (breeds st history) _ p.pool b)))

  goes : (o : Option Refusal) → sample_refusal st d plan history ≡ o → Kept w (pools ++ pool_by o st history) (sample_by o st (accepted st d plan history)).after
  goes None e = by_bool (breeds st history)
      (λ b. rw b (bred e b))
      (λ b. rw b (subst (λ (rs : List Request). Kept w rs (accepted st d plan history).after) (sym (append-nil pools)) (unbred b)))
  goes (Some n) e = subst (λ (rs : List Request). Kept w rs st) (sym (append-nil pools)) k

  pub kept-called : Kept w (pools ++ pool_of st d plan history) (sample_of st d plan history).after
  unfolding sample_of
  kept-called = goes (sample_refusal st d plan history) refl

-- ---- an opening

module _ (edition : Edition) (marks : List ℕ) (seed : ℕ) (size divisions : Option ℕ) (probability crossover_eta_of mutation_eta_of : Float) (w : ℕ) (cs ps ns pool : List ℕ) where
  abbrev first : State
  first = state (opened edition marks seed size divisions probability crossover_eta_of mutation_eta_of (Some w)) cs ps ns pool

  pub kept-opened : SessionOk first → Kept w [] first
  unfolding opened least_over
  kept-opened ok =
      let m = length marks in
      record {
        window = refl;
        fine = tt;
        count = sym (ap length (last-all {A = Request} (w - 1) [] (omega arith)));
        memory = ap (list_below (λ i. get_or pool (memory_at first.session.config + i) 0)) (zero-mul m) ∙ list_below_none _
            ∙ sym (ap parts_of (last-all {A = Request} (w - 1) [] (omega arith)));
        ideal = take-replicate m max_objectives infinity (objectives-few first.session.config ok.config) ∙ sym (repeated infinity m)
            ∙ sym (ap (λ (rs : List Request). list_below (least_over infinity rs) m) (last-all {A = Request} w [] (omega arith)));
      }

-- ---- the run

pub record Stands (w : ℕ) (pools : List Request) (st : State) : Type 0 where
  pub ok : SessionOk st
  pub kept : Kept w pools st

-- an opening that is ready answers the session that is opened
ready : (o : Option Refusal) (s : Session) (r : Opened) → r ≡ open_by o s → r.outcome ≡ (Ok tt) → r.session ≡ s
ready None s r e f = ap (λ (x : Opened). x.session) e
ready (Some n) s r e f = absurd (some-ne-none n (ap refused_by (sym (ap (λ (x : Opened). x.outcome) e) ∙ f)))

pub stands : {w : ℕ} {pools : List Request} {st : State} → Run w pools st → Stands w pools st
unfolding open_of
stands {w} (begun {edition} {directions} {seed} {size} {divisions} {probability} {crossover_eta_of} {mutation_eta_of} {r} opens is-ready cs ps ns pool) =
    let s = ready (open_refusal directions size divisions probability crossover_eta_of mutation_eta_of (Some w)) _ r opens.whole is-ready in
    let ok = opens.gives cs ps ns pool in
    record {
      ok = ok;
      kept = subst (λ (x : Session). Kept w [] (state x cs ps ns pool)) (sym s)
          (kept-opened edition directions seed size divisions probability crossover_eta_of mutation_eta_of w cs ps ns pool (subst (λ (x : Session). SessionOk (state x cs ps ns pool)) s ok));
    }
stands {w} (called {pools} {st} {d} {plan} {history} {exit} run samples) =
    let before = stands run in
    record {
      ok = samples.keeps;
      kept = subst (λ (x : SampleExit). Kept w (pools ++ pool_of st d plan history) x.after) (sym samples.whole) (kept-called w pools st d plan history before.kept before.ok);
    }

-- THE THEOREM: "after each generation [it] equals the least worked out from those pools"
pub window-ideal : {w : ℕ} {pools : List Request} {st : State} → Run w pools st
    → take st.session.config.n_obj st.session.ideal_point ≡ list_below (least_over infinity (last_of w pools)) st.session.config.n_obj
window-ideal run = (stands run).kept.ideal

-- "A window as long as the run gives the least over the entire run."
pub whole_run : {w : ℕ} {pools : List Request} {st : State} → Run w pools st → length pools ≤ w
    → take st.session.config.n_obj st.session.ideal_point ≡ list_below (least_over infinity pools) st.session.config.n_obj
whole_run {w} {pools} {st} run h =
    window-ideal run ∙ ap (λ (rs : List Request). list_below (least_over infinity rs) st.session.config.n_obj) (last-all w pools h)

-- "The ideal used is then the least .. over the pools of the last w generations, the present one included": by the selection of a call that breeds
pub used_ideal : {w : ℕ} {pools : List Request} {st : State} → Run w pools st → (d : Distribution) (plan : ℕ) (history : List ℕ) → sample_refusal st d plan history ≡ None
    → breeds st history ≡ true → (j : ℕ) → j < st.session.config.n_obj
    → ideal_of (request_of st history) j ≡ least_over infinity (last_of w (pools ++ (request_of st history ∷ []))) j
used_ideal {w} {pools} {st} run d plan history e b j l =
    let p = sample_passed st d plan history e in
    let at = stands run in
    ideal_used w pools st history at.kept at.ok (long st p.slices) (and_fails (breeds st history) _ p.pool b) j l
