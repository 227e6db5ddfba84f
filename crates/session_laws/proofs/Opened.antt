-- What `open` gives: the session that it answers has the session property, opened or not.
use Prim.Native.Nat.{ℕ, ◌≤◌}
use mathlib.Core.Path.{◌≡◌, refl, ap, ◌∙◌, sym}
use mathlib.Core.Bool.{true, false}
use mathlib.Core.List.{List, [], ◌∷◌}
use Rattle.std.specs.Prelude.{Option, None, Some, Result}
use mathlib.Core.Logic.{inl}
use native.Mathlib.Omega.{arith}
use lib.Dec.{ltb}
use lib.Ieee.{Float, binary64, eq, le, lt, of_bits, of_int, to_unsigned}
use lib.ListN.{length, take, drop, replicate, length-append, length-replicate, get_or-replicate}
use borrow.Author.Tests.{ltb-false, eq-eqb}
use Rattle.list_laws.proofs.Bools.{or_right, and_both, by_option}
use Rattle.list_laws.proofs.Tests.{all_in-every}
use Rattle.list_laws.proofs.Built.{over-take, take-replicate}
use Rattle.list_laws.proofs.Checks.{applies-at}
use Rattle.demand3_laws.proofs.Passed.{some-objectives}
use Rattle.model.specs.declared.Refusal.{Refusal}
use Rattle.model.specs.Lists.{first_below, all_in, all_below}
use Rattle.model.specs.Real.{infinity, unit}
use Rattle.model.specs.Plan.{max_objectives}
use Rattle.model.specs.Reference.{binomial, point_count, auto_divisions, divisions_of, population_size_of}
use Rattle.model.specs.declared.Edition.{Edition}
use Rattle.model.specs.declared.Session.{Session}
use Rattle.model.specs.Session.{state, opened, blank}
use Rattle.model.specs.Calls.{open_by, open_of, Opens, refused_by}
use Rattle.model.specs.Refusal.{first_of, whole_eta, open_refusal, bad_directions, bad_session_size, bad_session_divisions, bad_given_divisions, bad_divisions, bad_operators, bad_window, measurable, good_ideal, max_size, max_lines, good_entry, bad_dimensions}
use Rattle.model.specs.Property.{ConfigOk, SessionOk}
use Rattle.session_laws.proofs.Lists.{lent_empty}
use Rattle.reference_laws.proofs.Divisions.{session-bad}

-- ---- the ideal that a session starts from: plus infinity everywhere

pub infinity-good : good_entry infinity ≡ true
unfolding measurable eq le of_bits
infinity-good = refl

pub infinite-ideal : (m : ℕ) → m ≤ max_objectives → good_ideal m (take m (replicate max_objectives infinity)) ≡ true
unfolding good_ideal
infinite-ideal m h =
    ap (good_ideal m) (take-replicate m max_objectives infinity h)
    ∙ and_both _ _ (eq-eqb _ m (length-replicate m infinity))
    (all_in-every _ infinity (replicate m infinity) (λ k l. ap good_entry (get_or-replicate m k infinity infinity (omega (arith, length-replicate m infinity))) ∙ infinity-good))

-- ---- the size: what is given, or the point count, and never under 4

size-within : (m : ℕ) (size divisions : Option ℕ) → bad_session_size size ≡ false → ltb max_lines (point_count m (divisions_of m size divisions)) ≡ false
    → (4 ≤ population_size_of m size divisions) × (population_size_of m size divisions ≤ max_size)
unfolding population_size_of
size-within m None divisions e f = let h = ltb-false max_lines (point_count m (divisions_of m None divisions)) f in (omega arith, omega arith)
size-within m (Some size) divisions e f = let h = ltb-false max_size size e in (omega arith, omega arith)

-- ---- opening

module _ (edition : Edition) (marks : List ℕ) (seed : ℕ) (size divisions : Option ℕ) (probability crossover_eta_of mutation_eta_of : Float)
    (window : Option ℕ) (accepted : open_refusal marks size divisions probability crossover_eta_of mutation_eta_of window ≡ None) where
  pub directions-good : bad_directions marks ≡ false
  unfolding open_refusal
  directions-good = applies-at _ 0 accepted

  size-good : bad_session_size size ≡ false
  unfolding open_refusal
  size-good = applies-at _ 1 accepted

  pub divisions-good : bad_session_divisions (length marks) size divisions ≡ false
  unfolding open_refusal
  divisions-good = applies-at _ 2 accepted

  operators-good : bad_operators probability crossover_eta_of mutation_eta_of ≡ false
  unfolding open_refusal
  operators-good = applies-at _ 3 accepted

  window-good : bad_window window ≡ false
  unfolding open_refusal
  window-good = applies-at _ 4 accepted

  few-lines : ltb max_lines (point_count (length marks) (divisions_of (length marks) size divisions)) ≡ false
  unfolding bad_session_divisions
  few-lines = or_right (bad_given_divisions divisions) _ divisions-good

  config-good : ConfigOk (opened edition marks seed size divisions probability crossover_eta_of mutation_eta_of window).config
  unfolding opened
  config-good =
      record {
        directions = ap bad_directions (over-take marks (replicate max_objectives 0) (length marks) refl) ∙ directions-good;
        objectives = omega (arith, length-append marks (drop (length marks) (replicate max_objectives 0)));
        divisions = session-bad (length marks) size divisions ∙ divisions-good;
        at_least4 = (size-within (length marks) size divisions size-good few-lines).0;
        at_most = (size-within (length marks) size divisions size-good few-lines).1;
        operators = operators-good;
        window = window-good;
      }

  -- THE THEOREM: the field `gives` of `Opens`, whatever slices are lent
  pub opened-ok : (candidates plans next_dims pool : List ℕ)
      → SessionOk (state (opened edition marks seed size divisions probability crossover_eta_of mutation_eta_of window) candidates plans next_dims pool)
  unfolding opened bad_dimensions all_below
  opened-ok candidates plans next_dims pool =
      record {
        config = config-good;
        dimensions = refl;
        phase = record { first = refl; no_candidates = refl; no_plans = refl; no_waiting = refl; none_remembered = refl };
        waiting = inl refl;
        remembered = omega arith;
        ideal = infinite-ideal (length marks) (some-objectives marks directions-good).1;
        lent = λ e. lent_empty _ refl refl refl refl;
      }

-- ---- a refused opening

blank-config : ConfigOk blank.config
unfolding bad_directions bad_divisions bad_operators whole_eta point_count binomial all_in eq le lt of_bits of_int to_unsigned
blank-config = record {
  directions = ap bad_directions (take-replicate 1 max_objectives 0 (omega arith));
  objectives = omega (arith, length-replicate {A = ℕ} max_objectives 0);
  divisions = refl;
  at_least4 = omega arith;
  at_most = omega arith;
  operators = refl;
  window = refl;
}

-- its session has the property too
pub blank_ok : (candidates plans next_dims pool : List ℕ) → SessionOk (state blank candidates plans next_dims pool)
unfolding bad_dimensions all_below
blank_ok candidates plans next_dims pool = record {
  config = blank-config;
  dimensions = refl;
  phase = record { first = refl; no_candidates = refl; no_plans = refl; no_waiting = refl; none_remembered = refl };
  waiting = inl refl;
  remembered = omega arith;
  ideal = infinite-ideal 1 (omega arith);
  lent = λ e. lent_empty _ refl refl refl refl;
}

-- ---- an answer tells the refusal, or that there is none

pub opening_tells : (o : Option Refusal) (s : Session) (t : Result Unit Refusal) → (open_by o s).outcome ≡ t → o ≡ refused_by t
opening_tells None s t e = ap refused_by e
opening_tells (Some n) s t e = ap refused_by e

-- the whole promise of `open`, of its definition
pub opens : (edition : Edition) (directions : List ℕ) (seed : ℕ) (size divisions : Option ℕ) (probability crossover_eta_of mutation_eta_of : Float) (window : Option ℕ)
    → Opens edition directions seed size divisions probability crossover_eta_of mutation_eta_of window
    (open_of edition directions seed size divisions probability crossover_eta_of mutation_eta_of window)
unfolding open_of
opens edition directions seed size divisions probability crossover_eta_of mutation_eta_of window =
    record {
      whole = refl;
      refused = sym (opening_tells (open_refusal directions size divisions probability crossover_eta_of mutation_eta_of window) _ _ refl);
      gives = λ candidates plans next_dims pool. by_option (open_refusal directions size divisions probability crossover_eta_of mutation_eta_of window)
          (λ e. rw e (opened-ok edition directions seed size divisions probability crossover_eta_of mutation_eta_of window e candidates plans next_dims pool))
          (λ n e. rw e (blank_ok candidates plans next_dims pool));
    }

-- ---- the property can be met: document 01's defaults for two objectives

-- an eta of 20
abbrev twenty : Float
twenty = of_bits binary64 0x4034_0000_0000_0000

defaults_accepted : open_refusal (0 ∷ 0 ∷ []) None None unit twenty twenty None ≡ None
unfolding open_refusal first_of bad_directions bad_session_divisions bad_operators whole_eta divisions_of auto_divisions point_count binomial first_below all_in
    eq le lt of_bits of_int to_unsigned
defaults_accepted = refl

pub some-session : (edition : Edition) → SessionOk (state (opened edition (0 ∷ 0 ∷ []) 0 None None unit twenty twenty None) [] [] [] [])
some-session edition = opened-ok edition (0 ∷ 0 ∷ []) 0 None None unit twenty twenty None defaults_accepted [] [] [] []
