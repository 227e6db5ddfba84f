-- A pool of doubles that refusal 8 lets pass is measured, in minimise-space as it is given: a pool of words, and any whose plans have all their values. Refusal 8
-- lets the ideal pass too that such a pool moves.
use Prim.Native.Nat.{ℕ, ◌+◌, ◌≤◌, ◌<◌, min}
use mathlib.Core.Path.{◌≡◌, ap, sym, subst, ◌∙◌}
use mathlib.Core.Bool.{Bool, true, false, ◌||◌}
use mathlib.Core.List.{List}
use native.Mathlib.Omega.{arith}
use borrow.Author.Tests.{eq-eqb}
use lib.Dec.{T, eqb}
use lib.Ieee.{Float, nan, binary64, lt, le, neg, of_bits, fits}
use lib.Ieee.Fits.{neg-fits}
use lib.ListN.{length, get_or}
use Rattle.model.specs.declared.Direction.{Direction}
use Rattle.model.specs.declared.Direction.TheVariants.{Minimize, Maximize}
use Rattle.model.specs.Lists.{list_below}
use Rattle.model.specs.Plan.{Plan, max_objectives, plan_of}
use Rattle.model.specs.Real.{real}
use Rattle.model.specs.Row.{direction_of, to_minimize, row_of}
use Rattle.model.specs.Association.{Request, objectives, value_of, shapers, ideal_of}
use Rattle.model.specs.Refusal.{measurable, is_infinity, good_entry, good_plan, good_ideal, bad_pool}
use Rattle.list_laws.proofs.Bools.{T_true, true_T, and_left, and_right, and_both}
use Rattle.list_laws.proofs.Best.{among_all}
use Rattle.list_laws.proofs.Built.{list_below-length}
use Rattle.list_laws.proofs.Tests.{all_below-every, all_in-each, all_in-list_below}
use Rattle.list_laws.proofs.Checks.{good-values, good-ideal-length, pool-plan, pool-ideal}
use Rattle.front_laws.proofs.Feasible.{reals_fit}
use Rattle.front_laws.proofs.Plans.{InWords, in_words, words-accepted}
use Rattle.float_laws.proofs.Rounding.{le_neg}
use Rattle.float_laws.proofs.Constants.{exp2, minus_exp2}
use Rattle.association_laws.specs.Measurable.{Measurable}
use Rattle.association_laws.proofs.Shapers.{shaper_below}

-- ---- a value

-- what is measured stays so in minimise-space, and so does a double
measured_neg : (x : Float) → measurable x ≡ true → measurable (neg x) ≡ true
unfolding measurable of_bits neg
measured_neg x e = and_both _ _
    (T_true (le (minus_exp2 1000) (neg x)) (le_neg x (exp2 1000) (true_T (le x (exp2 1000)) (and_right (le (minus_exp2 1000) x) _ e))))
    (T_true (le (neg x) (exp2 1000)) (le_neg (minus_exp2 1000) x (true_T (le (minus_exp2 1000) x) (and_left _ (le x (exp2 1000)) e))))

measured-to_minimize : (d : Direction) (x : Float) → measurable x ≡ true → measurable (to_minimize d x) ≡ true
measured-to_minimize Minimize x e = e
measured-to_minimize Maximize x e = measured_neg x e

double_to_minimize : (d : Direction) (x : Float) → T (fits binary64 x) → T (fits binary64 (to_minimize d x))
double_to_minimize Minimize x h = h
double_to_minimize Maximize x h = neg-fits binary64 x h

-- a value of a plan that refusal 8 lets pass, where the plan has as many values; and one that is a double
plan-measured : (marks : List ℕ) (m : ℕ) (plan : Plan) → good_plan m plan ≡ true → m ≤ length plan.row → (j : ℕ) → j < m → measurable (row_of marks plan j) ≡ true
unfolding row_of
plan-measured marks m plan good whole j l =
    measured-to_minimize (direction_of (get_or marks j 0)) (get_or plan.row j nan) (all_in-each measurable nan plan.row (good-values m plan good) j (omega arith))

plan_double : (marks : List ℕ) (plan : Plan) (j : ℕ) → T (fits binary64 (get_or plan.row j nan)) → T (fits binary64 (row_of marks plan j))
unfolding row_of
plan_double marks plan j held = double_to_minimize (direction_of (get_or marks j 0)) (get_or plan.row j nan) held

-- ---- a request

good-entry : (m : ℕ) (ideal : List Float) → good_ideal m ideal ≡ true → (j : ℕ) → j < m → good_entry (get_or ideal j nan) ≡ true
unfolding good_ideal
good-entry m ideal e j l = all_in-each good_entry nan ideal (and_right (eqb (length ideal) m) _ e) j (omega (arith, good-ideal-length m ideal e))

-- a pool that refusal 8 lets pass, whose plans have as many values as there are objectives
module _ (r : Request) (pool : bad_pool r ≡ false) (whole : (p : ℕ) → p < r.count → objectives r ≤ length (r.plans p).row) where
  value-measured : (p j : ℕ) → p < r.count → j < objectives r → measurable (value_of r p j) ≡ true
  value-measured p j h k = plan-measured r.marks (objectives r) (r.plans p) (pool-plan r pool p h) (whole p h) j k

  start-good : (j : ℕ) → j < objectives r → good_entry (get_or r.ideal j nan) ≡ true
  start-good = good-entry (objectives r) r.ideal (pool-ideal r pool)

  -- THEOREM: it is measured, where all its numbers are doubles
  pub measured : ((p j : ℕ) → p < r.count → j < objectives r → T (fits binary64 (get_or (r.plans p).row j nan)))
      → ((j : ℕ) → j < objectives r → T (fits binary64 (get_or r.ideal j nan))) → Measurable r
  measured doubles start_doubles = record {
    doubles = λ p j h k. plan_double r.marks (r.plans p) j (doubles p j h k);
    values = value-measured;
    start_doubles = start_doubles;
    start = start-good;
  }

  -- each entry of the ideal that it moves is that of the ideal it starts from, or a value
  moved-entry : (j : ℕ) → j < objectives r → good_entry (ideal_of r j) ≡ true
  unfolding ideal_of
  moved-entry j k =
      among_all lt (λ (x : Float). good_entry x ≡ true) (get_or r.ideal j nan) (λ p. value_of r p j) (shapers r) (start-good j k)
      (λ p m. ap (λ (b : Bool). b || is_infinity (value_of r p j)) (value-measured p j (shaper_below r p m) k))

  -- THEOREM: so refusal 8 lets that ideal pass
  pub moved-good : good_ideal (objectives r) (list_below (ideal_of r) (objectives r)) ≡ true
  unfolding good_ideal
  moved-good =
      let m = objectives r in
      and_both _ _ (eq-eqb (length (list_below (ideal_of r) m)) m (list_below-length (ideal_of r) m))
      (all_in-list_below good_entry (ideal_of r) m ∙ all_below-every (λ j. good_entry (ideal_of r j)) m moved-entry)

-- the values of a plan of words are doubles
word_double : (word : ℕ → ℕ) (j : ℕ) → j < length (plan_of word).row → T (fits binary64 (get_or (plan_of word).row j nan))
unfolding plan_of
word_double word j l =
    let n = min (word 1) max_objectives in
    reals_fit (λ i. word (2 + i)) n j (omega (arith, list_below-length (λ i. real (word (2 + i))) n))

-- so a pool of words that refusal 8 lets pass is measured, where the ideal's entries are doubles
pub measured-words : (r : Request) (word : ℕ → ℕ → ℕ) → ((p : ℕ) → r.plans p ≡ plan_of (word p)) → objectives r ≤ max_objectives → bad_pool r ≡ false
    → ((j : ℕ) → j < objectives r → T (fits binary64 (get_or r.ideal j nan))) → Measurable r
measured-words r word same few pool held =
    let m = objectives r in
    let whole : (p : ℕ) → p < r.count → m ≤ length (r.plans p).row =
    λ p h. (words-accepted m (r.plans p) few (subst InWords (sym (same p)) (in_words (word p))) (pool-plan r pool p h)).whole in
    measured r pool whole
    (λ p j h k. subst (λ plan. j < length plan.row → T (fits binary64 (get_or plan.row j nan))) (sym (same p)) (word_double (word p) j) (omega (arith, whole p h)))
    held
