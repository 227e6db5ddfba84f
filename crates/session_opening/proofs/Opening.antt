-- The refusals of an opening, one after the other.
use Prim.Native.Nat.{ℕ, ◌≤◌, ◌<◌}
use mathlib.Core.Path.{◌≡◌, sym, ap, ap₂, ◌∙◌, subst}
use mathlib.Core.Bool.{Bool, true, false, not, ◌&&◌}
use mathlib.Core.List.{List, []}
use Rattle.std.specs.Prelude.{Option, Some, Result, Ok, Err}
use borrow.Author.Tests.{le-leb, lt-leb, le-ltb, lt-ltb}
use lib.Dec.{leb, ltb}
use lib.Ieee.{Float}
use lib.ListN.{length, replicate}
use Rattle.model.specs.declared.Refusal.{Refusal}
use Rattle.model.specs.declared.Refusal.TheVariants as why
use Rattle.model.specs.declared.Edition.{Edition}
use Rattle.model.specs.declared.Opened.{Opened}
use Rattle.model.specs.declared.Session.{Session}
use Rattle.model.specs.Lists.{over}
use Rattle.model.specs.Plan.{max_objectives}
use Rattle.model.specs.Reference.{divisions_of, population_size_of}
use Rattle.model.specs.Session.{blank, opened, start}
use Rattle.model.specs.Calls.{open_by, open_of, Opens, refused_by}
use Rattle.list_laws.proofs.Below.{by_lt}
use Rattle.list_laws.proofs.Checks.{passed_over, applies-first}
use Rattle.model.specs.Window.{max_window}
use Rattle.session_laws.proofs.Opened.{opening_tells, opens}
use Rattle.model.specs.Refusal.{first_of, open_refusal, bad_directions, bad_session_size, bad_session_divisions, bad_operators, bad_window}
use Rattle.session_opening.specs.Opening.{opening_by}

module _ (marks : List ℕ) (size divisions : Option ℕ) (probability crossover_eta_of mutation_eta_of : Float) (window : Option ℕ) where
  abbrev answer : Result Unit Refusal
  answer = opening_by (open_refusal marks size divisions probability crossover_eta_of mutation_eta_of window)

  pub refused_2 : bad_directions marks ≡ true → Err why.Directions ≡ answer
  unfolding open_refusal
  refused_2 a = ap opening_by (sym (applies-first _ _ a))

  module _ (a : bad_directions marks ≡ false) where
    pub refused_3 : bad_session_size size ≡ true → Err why.Size ≡ answer
    unfolding open_refusal
    refused_3 b = ap opening_by (sym (passed_over _ _ a ∙ applies-first _ _ b))

    module _ (b : bad_session_size size ≡ false) where
      pub refused_4 : bad_session_divisions (length marks) size divisions ≡ true → Err why.Divisions ≡ answer
      unfolding open_refusal
      refused_4 c = ap opening_by (sym (passed_over _ _ a ∙ passed_over _ _ b ∙ applies-first _ _ c))

      module _ (c : bad_session_divisions (length marks) size divisions ≡ false) where
        pub refused_5 : bad_operators probability crossover_eta_of mutation_eta_of ≡ true → Err why.Operators ≡ answer
        unfolding open_refusal
        refused_5 d = ap opening_by (sym (passed_over _ _ a ∙ passed_over _ _ b ∙ passed_over _ _ c ∙ applies-first _ _ d))

        module _ (d : bad_operators probability crossover_eta_of mutation_eta_of ≡ false) where
          pub refused_14 : bad_window window ≡ true → Err why.Window ≡ answer
          unfolding open_refusal
          refused_14 e = ap opening_by (sym (passed_over _ _ a ∙ passed_over _ _ b ∙ passed_over _ _ c ∙ passed_over _ _ d ∙ applies-first _ _ e))

          none_applies : bad_window window ≡ false → open_refusal marks size divisions probability crossover_eta_of mutation_eta_of window ≡ first_of []
          unfolding open_refusal
          none_applies e = passed_over _ _ a ∙ passed_over _ _ b ∙ passed_over _ _ c ∙ passed_over _ _ d ∙ passed_over _ _ e

          pub ready : bad_window window ≡ false → (Ok tt) ≡ answer
          unfolding first_of
          ready e = ap opening_by (sym (none_applies e))

-- ---- a window that is given

pub window-low : (w : ℕ) → w < 1 → true ≡ bad_window (Some w)
window-low w h = sym (ap (λ (b : Bool). not (b && leb w max_window)) (lt-leb 1 w h))

pub window_high : (w : ℕ) → 1 ≤ w → ltb max_window w ≡ bad_window (Some w)
window_high w h = by_lt max_window w
    (λ l. lt-ltb max_window w l ∙ sym (ap₂ (λ (a b : Bool). not (a && b)) (le-leb 1 w h) (lt-leb w max_window l)))
    (λ l. le-ltb max_window w l ∙ sym (ap₂ (λ (a b : Bool). not (a && b)) (le-leb 1 w h) (le-leb w max_window l)))

-- ---- the promise, by the answer

module _ (edition : Edition) (marks : List ℕ) (seed : ℕ) (size divisions : Option ℕ) (probability crossover_eta_of mutation_eta_of : Float) (window : Option ℕ) where
  abbrev refusal : Option Refusal
  refusal = open_refusal marks size divisions probability crossover_eta_of mutation_eta_of window

  abbrev good : Session
  good = opened edition marks seed size divisions probability crossover_eta_of mutation_eta_of window

  abbrev Promise : Opened → Type 0
  Promise = Opens edition marks seed size divisions probability crossover_eta_of mutation_eta_of window

  -- the outcome t is found to be u, and the session v is the one that goes with it: the answer is the definition's, which has the rest of the promise
  pub by_answer : (t u : Result Unit Refusal) (s v : Session) → t ≡ opening_by refusal → t ≡ u → s ≡ v → record { outcome = u; session = v } ≡ open_by (refused_by u) good
      → Promise (record { outcome = t; session = s })
  unfolding open_of
  by_answer t u s v e f g h =
      subst Promise
      (sym (ap₂ (λ (x : Result Unit Refusal) (y : Session). record { outcome = x; session = y }) f g ∙ h ∙ ap (λ (x : Option Refusal). open_by x good) (sym (opening_tells refusal blank u (sym e ∙ f)))))
      (opens edition marks seed size divisions probability crossover_eta_of mutation_eta_of window)

-- ---- the session that is opened, from its parts

pub opened_is : (edition : Edition) (marks : List ℕ) (seed : ℕ) (size divisions : Option ℕ) (probability crossover_eta_of mutation_eta_of : Float) (window : Option ℕ) (m : List ℕ) (h n : ℕ)
    → m ≡ over marks (replicate max_objectives 0) → h ≡ divisions_of (length marks) size divisions → n ≡ population_size_of (length marks) size divisions
    → start (record { edition = edition; n_obj = length marks; directions = m; divisions = h; population_size = n; crossover_prob = probability; crossover_eta = crossover_eta_of; mutation_eta = mutation_eta_of; window = window }) seed
    ≡ opened edition marks seed size divisions probability crossover_eta_of mutation_eta_of window
unfolding opened
opened_is edition marks seed size divisions probability crossover_eta_of mutation_eta_of window m h n e f g = rw (e, f, g)
