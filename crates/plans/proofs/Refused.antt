-- Refusals 2 and 8, test by test: of directions, of the ideal and of a plan of words.
use Prim.Native.Nat.{ℕ, ◌+◌, ◌≤◌, ◌<◌, min}
use mathlib.Core.Path.{◌≡◌, refl, ap, ap₂, sym, ◌∙◌}
use mathlib.Core.Bool.{Bool, true, false, not, ◌&&◌}
use mathlib.Core.List.{List}
use native.Mathlib.Nat.{add_assoc}
use native.Mathlib.Omega.{arith}
use borrow.Author.Tests.{lt-leb, le-leb, leb-false, eq-eqb, ne_eqb}
use mathlib.Core.Logic.{⊎_elim}
use Rattle.std.proofs.lemmas.Bool.Decides.{eqb_tells, leb_tells}
use lib.Dec.{eqb, leb}
use lib.Ieee.{Float, nan}
use lib.ListN.{length, get_or}
use Rattle.model.specs.Lists.{all_below, all_in, list_below}
use Rattle.model.specs.Plan.{plan_of, plan_from, max_objectives, max_constraints}
use Rattle.model.specs.Real.{real}
use Rattle.model.specs.Refusal.{bad_directions, measurable, good_entry, good_ideal, good_plan}
use Rattle.list_laws.proofs.Bools.{and_no}
use Rattle.list_laws.proofs.Built.{list_below-same}
use Rattle.list_laws.proofs.Tests.{all_below-same, all_below_any, all_in-below, all_in-list_below}
use Rattle.list_laws.proofs.Chains.{all_in-chain, any_below-chain}
use Rattle.std.proofs.Common.{rules, ◌↔◌, All, IsTrue}
use Rattle.std.specs.List.{between}
use Rattle.std.proofs.lemmas.List.Edits.{length-between, get_or-between}

-- ---- directions

-- the marks before place j are 0 or 1
abbrev pub marks_to : List ℕ → ℕ → Bool
marks_to marks j = all_below (λ k. leb (get_or marks k 0) 1) j

pub directions_none : (marks : List ℕ) → length marks ≡ 0 → bad_directions marks ≡ true
unfolding bad_directions
directions_none marks h = rw h

pub directions-many : (marks : List ℕ) → 8 < length marks → bad_directions marks ≡ true
unfolding bad_directions
directions-many marks h = rw (and_no (leb 1 (length marks)) (leb (length marks) 8) (lt-leb (length marks) 8 h))

pub directions-marks : (marks : List ℕ) → 1 ≤ length marks → length marks ≤ 8 → bad_directions marks ≡ not (marks_to marks (length marks))
unfolding bad_directions
directions-marks marks h k =
    rw (le-leb 1 (length marks) h, le-leb (length marks) 8 k) (ap not (all_in-below (λ t. leb t 1) 0 marks))

-- no mark is above 1 where `any` finds none
pub directions_chain : (marks : List ℕ) (r : Bool) → 1 ≤ length marks → length marks ≤ 8
    → (IsTrue r ↔ ((k : ℕ) × (k < length marks) × (1 < get_or marks k 0))) → r ≡ bad_directions marks
directions_chain marks r h k chain =
    any_below-chain (λ t. not (leb (get_or marks t 0) 1)) (length marks) r (
      (λ e. let w = chain.0 e in (w.0, w.1, ap not (lt-leb (get_or marks w.0 0) 1 w.2))),
      (λ w. chain.1 (w.0, w.1, leb-false (get_or marks w.0 0) 1 (not_true _ w.2))),
    )
    ∙ sym (directions-marks marks h k ∙ ap not (all_below_any _ _) ∙ twice _)
  where
    not_true : (b : Bool) → not b ≡ true → b ≡ false
    not_true true e = cc
    not_true false e = refl

    twice : (b : Bool) → not (not b) ≡ b
    twice true = refl
    twice false = refl

-- ---- the ideal

pub ideal-length : (m : ℕ) (ideal : List Float) → (length ideal ≡ m → ⊥) → good_ideal m ideal ≡ false
unfolding good_ideal
ideal-length m ideal h = rw (ne_eqb (length ideal) m h)

pub ideal_entries : (m : ℕ) (ideal : List Float) → length ideal ≡ m
    → good_ideal m ideal ≡ all_below (λ k. good_entry (get_or ideal k nan)) (length ideal)
unfolding good_ideal
ideal_entries m ideal e = rw (eq-eqb (length ideal) m e) (all_in-below good_entry nan ideal)

-- ---- a plan of words

-- the reals of n words from place `at` on are measurable
abbrev pub measurable_to : List ℕ → ℕ → ℕ → Bool
measurable_to words at n = all_below (λ j. measurable (real (get_or words (at + j) 0))) n

-- the plan that lies in a slice of words from place `at` on
module _ (words : List ℕ) (at : ℕ) where
  moved : (from n : ℕ) → list_below (λ j. real (get_or words (at + (from + j)) 0)) n ≡ list_below (λ j. real (get_or words (at + from + j) 0)) n
  moved from n = list_below-same _ _ n (λ j l. ap (λ t. real (get_or words t 0)) (sym (add_assoc at from j)))

  -- its values and constraints
  pub words_row : (plan_from words at).row ≡ list_below (λ j. real (get_or words (at + 2 + j) 0)) (min (get_or words (at + 1) 0) max_objectives)
  unfolding plan_of
  words_row = moved 2 _

  pub words-constraints : get_or words (at + 10) 0 ≤ max_constraints
      → (plan_from words at).constraints ≡ list_below (λ j. real (get_or words (at + 11 + j) 0)) (get_or words (at + 10) 0)
  unfolding plan_of
  words-constraints h =
      let e : min (get_or words (at + 10) 0) max_constraints ≡ get_or words (at + 10) 0 = omega arith in
      moved 11 _ ∙ ap (list_below _) e

  -- refusal 8 for it, test by test
  module _ (m : ℕ) where
    pub plan-row-length : (get_or words (at + 1) 0 ≡ m → ⊥) → good_plan m (plan_from words at) ≡ false
    unfolding good_plan plan_of
    plan-row-length h = rw (ne_eqb (get_or words (at + 1) 0) m h)

    pub plan-constraints : max_constraints < get_or words (at + 10) 0 → good_plan m (plan_from words at) ≡ false
    unfolding good_plan plan_of
    plan-constraints h = rw (lt-leb (get_or words (at + 10) 0) max_constraints h) (and_no (eqb (get_or words (at + 1) 0) m) false refl)

    pub plan-measured : m ≤ max_objectives → get_or words (at + 1) 0 ≡ m → get_or words (at + 10) 0 ≤ max_constraints → (b : Bool) → measurable_to words (at + 2) m ≡ b
        → good_plan m (plan_from words at) ≡ (b && measurable_to words (at + 11) (get_or words (at + 10) 0))
    unfolding good_plan plan_of
    plan-measured h e k b v =
        let a : min (get_or words (at + 1) 0) max_objectives ≡ m = omega arith in
        rw (eq-eqb (get_or words (at + 1) 0) m e, le-leb (get_or words (at + 10) 0) max_constraints k)
        (ap₂ (λ x y. x && y)
        (ap (all_in measurable) (words_row ∙ ap (list_below _) a) ∙ all_in-list_below measurable _ m ∙ v)
        (ap (all_in measurable) (words-constraints k) ∙ all_in-list_below measurable _ (get_or words (at + 10) 0)))

-- what `all` says of a part of the words
pub measurable_part : (words : List ℕ) (at n : ℕ) (r : Bool) → at + n ≤ length words
    → (IsTrue r ↔ All (λ w. IsTrue (measurable (real w))) (between at (at + n) words)) → r ≡ measurable_to words at n
measurable_part words at n r h chain =
    let part = between at (at + n) words in
    let e : length part ≡ n = search (rules, length-between) in
    all_in-chain (λ w. measurable (real w)) 0 part r chain
    ∙ all_in-below (λ w. measurable (real w)) 0 part
    ∙ rw e (all_below-same _ _ n (λ k l. ap (λ w. measurable (real w)) (get_or-between words at (at + n) k 0 (omega arith))))

-- refusal 8 for a plan of words, as one test after the other
pub plan_tests : (words : List ℕ) (at m : ℕ) → m ≤ max_objectives → good_plan m (plan_from words at)
    ≡ (eqb (get_or words (at + 1) 0) m && (leb (get_or words (at + 10) 0) max_constraints
    && (measurable_to words (at + 2) m && measurable_to words (at + 11) (get_or words (at + 10) 0))))
plan_tests words at m h = ⊎_elim
    (λ e. ⊎_elim
    (λ k. plan-measured words at m h e.1 k.1 _ refl ∙ rw (e.0, k.0) refl)
    (λ k. plan-constraints words at m k.1 ∙ rw k.0 (sym (and_no (eqb (get_or words (at + 1) 0) m) false refl)))
    (leb_tells (get_or words (at + 10) 0) max_constraints))
    (λ e. plan-row-length words at m e.1 ∙ rw e.0 refl)
    (eqb_tells (get_or words (at + 1) 0) m)
