-- The two dominations of the plans of a pool: strict on accepted plans, the paper's, and what flat lists of the pool give.
use Prim.Native.Nat.{ℕ, ◌+◌, ◌≤◌, ◌<◌, min}
use mathlib.Core.Path.{◌≡◌, refl, ap, ◌∙◌}
use mathlib.Core.Bool.{Bool, true, false, false≢true}
use mathlib.Core.List.{List, []}
use mathlib.Core.Logic.{◌↔◌}
use native.Mathlib.Omega.{arith}
use lib.Ieee.{Float, nan, inf, fin, lt, le, neg, is_nan}
use lib.ListN.{length, get_or}
use Rattle.model.specs.declared.Direction.{Direction}
use Rattle.model.specs.declared.Direction.TheVariants.{Minimize, Maximize}
use Rattle.model.specs.Papers.Deb2002.{Dominates, Solution, ConstrainedDominates, only_feasible, less_violation, both_feasible}
use Rattle.model.specs.Plan.{Plan, max_objectives, plan_of}
use Rattle.model.specs.Real.{real, nought}
use Rattle.model.specs.Refusal.{least_measured, most_measured, measurable, good_plan}
use Rattle.model.specs.Row.{direction_of, to_minimize, row_of, dominates, feasible, violation, by_feasibility, constrained_dominates, row_beats, beats}
use Rattle.list_laws.proofs.Below.{by_suc}
use Rattle.list_laws.proofs.Bools.{T_true, true_T, T_false, false_T, and_left}
use Rattle.list_laws.proofs.Built.{list_below-length}
use Rattle.list_laws.proofs.Checks.{good_length, good-values}
use Rattle.list_laws.proofs.Tests.{all_in-each}
use Rattle.front_laws.specs.Strict.{Strict, Known}
use Rattle.front_laws.specs.Flat.{KnownPlans}
use Rattle.front_laws.proofs.Same.{Agree}
use Rattle.front_laws.proofs.Domination.{dominates-paper, rule_strict}
use Rattle.float_laws.proofs.Order.{le_not_nan}
use Rattle.front_laws.proofs.Violation.{feasible_none}
use Rattle.front_laws.proofs.Feasible.{feasible-violation, words-constraints}

-- ---- constrained_dominates, of any rows and constraints

-- a row and constraints as the paper's rule sees them
abbrev pub solution : (ℕ → Float) → List Float → Solution
solution a ca = record { values = a; is_feasible = feasible ca; overall = violation ca }

-- the rule's cases, for any feasibility and violation
to_paper : (m : ℕ) (a b : Solution) → Known m a.values → Known m b.values → (fa fb : Bool) → a.is_feasible ≡ fa → b.is_feasible ≡ fb
    → by_feasibility fa fb (lt a.overall b.overall) (dominates m a.values b.values) ≡ true → ConstrainedDominates m a b
to_paper m a b ka kb true true x y e =
    both_feasible (true_T a.is_feasible x) (true_T b.is_feasible y) ((dominates-paper m a.values b.values ka kb).0 e)
to_paper m a b ka kb true false x y e = only_feasible (true_T a.is_feasible x) (false_T b.is_feasible y)
to_paper m a b ka kb false true x y e = absurd (false≢true e)
to_paper m a b ka kb false false x y e =
    less_violation (false_T a.is_feasible x) (false_T b.is_feasible y) (true_T (lt a.overall b.overall) e)

of_paper : (m : ℕ) (a b : Solution) → Known m a.values → Known m b.values → ConstrainedDominates m a b
    → by_feasibility a.is_feasible b.is_feasible (lt a.overall b.overall) (dominates m a.values b.values) ≡ true
of_paper m a b ka kb (only_feasible x y) = rw (T_true a.is_feasible x, T_false b.is_feasible y)
of_paper m a b ka kb (less_violation x y l) = rw (T_false a.is_feasible x, T_false b.is_feasible y) (T_true (lt a.overall b.overall) l)
of_paper m a b ka kb (both_feasible x y d) =
    rw (T_true a.is_feasible x, T_true b.is_feasible y) ((dominates-paper m a.values b.values ka kb).1 d)

-- the paper's constrained domination
pub constrained_paper : (m : ℕ) (a : ℕ → Float) (ca : List Float) (b : ℕ → Float) (cb : List Float) → Known m a → Known m b
    → (constrained_dominates m a ca b cb ≡ true) ↔ ConstrainedDominates m (solution a ca) (solution b cb)
unfolding constrained_dominates
constrained_paper m a ca b cb ka kb = (
  λ e. to_paper m (solution a ca) (solution b cb) ka kb (feasible ca) (feasible cb) refl refl e,
  λ h. of_paper m (solution a ca) (solution b cb) ka kb h,
)

-- ---- accepted plans

neg_known : (x : Float) → is_nan x ≡ false → is_nan (neg x) ≡ false
unfolding is_nan neg
neg_known nan e = e
neg_known (inf s) e = refl
neg_known (fin s m e') e = refl

known_to_minimize : (d : Direction) (x : Float) → is_nan x ≡ false → is_nan (to_minimize d x) ≡ false
known_to_minimize Minimize x e = e
known_to_minimize Maximize x e = neg_known x e

-- a mark that is not 0 stands for maximising
pub maximised : (k : ℕ) → (k ≡ 0 → ⊥) → direction_of k ≡ Maximize
maximised = by_suc direction_of Maximize (λ j. refl)

-- a value that is measured is no NaN
measurable_known : (x : Float) → measurable x ≡ true → is_nan x ≡ false
unfolding measurable
measurable_known x e =
    T_false (is_nan x) (le_not_nan least_measured x (true_T (le least_measured x) (and_left _ (le x most_measured) e))).1

-- A plan that passes refusal 8 and has m values, as every plan of a slice of words has.
pub record Accepted (m : ℕ) (plan : Plan) : Type 0 where
  pub good : good_plan m plan ≡ true
  pub whole : m ≤ length plan.row

-- its row has no NaN, whatever the directions
pub accepted_known : (marks : List ℕ) (m : ℕ) (plan : Plan) → Accepted m plan → Known m (row_of marks plan)
unfolding row_of
accepted_known marks m plan h j l =
    known_to_minimize (direction_of (get_or marks j 0)) (get_or plan.row j nan)
    (measurable_known (get_or plan.row j nan) (all_in-each measurable nan plan.row (good-values m plan h.good) j (omega (arith, h.whole))))

-- a plan of words has as many values as it claims, up to 8
abbrev pub InWords : Plan → Type 0
InWords plan = length plan.row ≡ min plan.row_length max_objectives

pub in_words : (word : ℕ → ℕ) → InWords (plan_of word)
unfolding plan_of
in_words word = list_below-length (λ j. real (word (2 + j))) (min (word 1) max_objectives)

-- such a plan that passes refusal 8, where there are at most 8 objectives
pub words-accepted : (m : ℕ) (plan : Plan) → m ≤ max_objectives → InWords plan → good_plan m plan ≡ true → Accepted m plan
words-accepted m plan h w e = record { good = e; whole = omega (arith, w, good_length m plan e) }

-- where no row has a NaN
module _ (marks : List ℕ) (plans : ℕ → Plan) (n : ℕ) (known : KnownPlans marks plans n) where
  pub beats_strict : Strict (beats marks plans) n
  unfolding beats constrained_dominates
  beats_strict =
      rule_strict (length marks) n (λ p. feasible (plans p).constraints) (λ p. violation (plans p).constraints) (λ p. row_of marks (plans p)) known

-- a plan as the paper's rule sees it
abbrev pub solution_of : List ℕ → Plan → Solution
solution_of marks plan = solution (row_of marks plan) plan.constraints

-- its two facts of the constraints agree: where refusal 8 lets a plan of words pass, it is feasible exactly where its overall violation is at most 0
pub solution-feasible : (marks : List ℕ) (m : ℕ) (word : ℕ → ℕ) → good_plan m (plan_of word) ≡ true
    → (solution_of marks (plan_of word)).is_feasible ≡ le (solution_of marks (plan_of word)).overall nought
solution-feasible marks m word good = feasible-violation (plan_of word).constraints (words-constraints m word good)

-- of accepted plans both are the paper's
pub row_beats-paper : (marks : List ℕ) (plans : ℕ → Plan) (p q : ℕ) → Accepted (length marks) (plans p) → Accepted (length marks) (plans q)
    → (row_beats marks plans p q ≡ true) ↔ Dominates (length marks) (row_of marks (plans p)) (row_of marks (plans q))
unfolding row_beats
row_beats-paper marks plans p q a b =
    dominates-paper (length marks) (row_of marks (plans p)) (row_of marks (plans q))
    (accepted_known marks (length marks) (plans p) a) (accepted_known marks (length marks) (plans q) b)

pub beats-paper : (marks : List ℕ) (plans : ℕ → Plan) (p q : ℕ) → Accepted (length marks) (plans p) → Accepted (length marks) (plans q)
    → (beats marks plans p q ≡ true) ↔ ConstrainedDominates (length marks) (solution_of marks (plans p)) (solution_of marks (plans q))
unfolding beats
beats-paper marks plans p q a b =
    constrained_paper (length marks) (row_of marks (plans p)) (plans p).constraints (row_of marks (plans q)) (plans q).constraints
    (accepted_known marks (length marks) (plans p) a) (accepted_known marks (length marks) (plans q) b)

-- ---- where no plan has constraints the two dominations are one

pub beats_unconstrained : (marks : List ℕ) (plans : ℕ → Plan) (n : ℕ) → ((p : ℕ) → p < n → (plans p).constraints ≡ [])
    → Agree (beats marks plans) (row_beats marks plans) n
unfolding beats row_beats constrained_dominates
beats_unconstrained marks plans n h p q lp lq =
    rw (ap feasible (h p lp) ∙ feasible_none, ap feasible (h q lq) ∙ feasible_none)
