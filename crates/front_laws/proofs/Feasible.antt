-- THEOREM: constraints that refusal 8 lets pass are feasible exactly where their overall violation is at most 0.
use Prim.Native.Nat.{ℕ, ◌+◌, ◌≤◌, ◌<◌, min}
use mathlib.Core.Path.{◌≡◌, sym, subst}
use mathlib.Core.Bool.{true, ◌&&◌}
use mathlib.Core.List.{List}
use native.Mathlib.Omega.{arith}
use lib.Dec.{T}
use lib.Ieee.{Float, nan, binary64, of_bits, fits, lt, le}
use lib.Ieee.Bits.{of_bits-fits}
use lib.Ieee.Fits.{and_l, and_r}
use lib.ListN.{length, get_or}
use Rattle.model.specs.Lists.{all_in, list_below}
use Rattle.model.specs.Plan.{max_constraints, plan_of}
use Rattle.model.specs.Real.{real, nought}
use Rattle.model.specs.Refusal.{measurable, good_plan}
use Rattle.model.specs.Row.{feasible, excess, violation}
use Rattle.list_laws.proofs.Bools.{by_cond, true_T, false_T, T_true, both_ways}
use Rattle.list_laws.proofs.Built.{list_below-length, list_below-at}
use Rattle.list_laws.proofs.Checks.{good_constraint_values}
use Rattle.list_laws.proofs.Tests.{all_in-each, all_in-every}
use Rattle.float_laws.proofs.Order.{le_trans, le_refl, lt→le, lt→nle, nlt→le}
use Rattle.float_laws.proofs.Constants.{exp2, minus_exp2, nought-fits, nought-not-nan, unsigned-from}
use Rattle.float_laws.proofs.FromZero.{Upto}
use Rattle.float_laws.proofs.Magnitude.{Within, within-not-nan}
use Rattle.float_laws.proofs.Sums.{sum-nought, term_below_sum}

-- ---- a value that refusal 8 lets pass

pub measurable-within : (x : Float) → T (fits binary64 x) → measurable x ≡ true → Within 1000 x
unfolding measurable of_bits
measurable-within x h e = let t = true_T (le (minus_exp2 1000) x && le x (exp2 1000)) e in record {
  held = h;
  low = and_l (le (minus_exp2 1000) x) (le x (exp2 1000)) t;
  high = and_r (le (minus_exp2 1000) x) (le x (exp2 1000)) t;
}

-- what words give are doubles
pub reals_fit : (word : ℕ → ℕ) (n k : ℕ) → k < n → T (fits binary64 (get_or (list_below (λ j. real (word j)) n) k nan))
reals_fit word n k l = subst (λ x. T (fits binary64 x)) (sym (list_below-at (λ j. real (word j)) n nan k l)) (of_bits-fits binary64 (word k))

-- ---- max(c, 0)

-- it is from 0 up and at least c
excess-upto : (c : Float) → Within 1000 c → Upto (exp2 1000) (excess c)
unfolding of_bits
excess-upto c w = by_cond (Upto (exp2 1000)) (lt nought c) c nought
    (λ e. record { held = w.held; from = lt→le nought c (true_T (lt nought c) e); to = w.high })
    (λ e. record { held = nought-fits binary64; from = unsigned-from nought tt; to = unsigned-from (exp2 1000) tt })

excess-above : (c : Float) → Within 1000 c → T (le c (excess c))
unfolding of_bits
excess-above c w = by_cond (λ x. T (le c x)) (lt nought c) c nought
    (λ e. le_refl c (within-not-nan 1000 c w))
    (λ e. nlt→le nought c nought-not-nan (within-not-nan 1000 c w) (false_T (lt nought c) e))

-- and 0 where c is at most 0
excess-nought : (c : Float) → T (le c nought) → Upto nought (excess c)
unfolding of_bits
excess-nought c h = by_cond (Upto nought) (lt nought c) c nought
    (λ e. absurd (lt→nle nought c (true_T (lt nought c) e) h))
    (λ e. record { held = nought-fits binary64; from = unsigned-from nought tt; to = unsigned-from nought tt })

-- ---- the sum

-- Constraints as an accepted plan has them: at most 16, and each a double that refusal 8 lets pass.
pub record AcceptedConstraints (cs : List Float) : Type 0 where
  pub few : length cs ≤ max_constraints
  pub doubles : (k : ℕ) → k < length cs → T (fits binary64 (get_or cs k nan))
  pub measured : all_in measurable cs ≡ true

-- THE THEOREM: each is at most 0 where its excess is, and that is at most the sum; and excesses of 0 add up to 0
pub feasible-violation : (cs : List Float) → AcceptedConstraints cs → feasible cs ≡ le (violation cs) nought
unfolding feasible violation of_bits
feasible-violation cs h =
    let c : ℕ → Float = λ k. get_or cs k nan in
    let n = length cs in
    let within : (k : ℕ) → k < n → Within 1000 (c k) = λ k l. measurable-within (c k) (h.doubles k l) (all_in-each measurable nan cs h.measured k l) in
    let below : (k : ℕ) → k < n → T (le (excess (c k)) (violation cs)) =
    term_below_sum 1000 (λ k. excess (c k)) n (omega (arith, h.few)) (λ k l. excess-upto (c k) (within k l)) in
    both_ways (feasible cs) (le (violation cs) nought)
    (λ e. T_true (le (violation cs) nought)
    (sum-nought (λ k. excess (c k)) n (λ k l. excess-nought (c k) (true_T (le (c k) nought) (all_in-each (λ c. le c nought) nan cs e k l)))).to)
    (λ e. all_in-every (λ c. le c nought) nan cs (λ k l. T_true (le (c k) nought)
    (le_trans (c k) (excess (c k)) nought (excess-above (c k) (within k l))
    (le_trans (excess (c k)) (violation cs) nought (below k l) (true_T (le (violation cs) nought) e)))))

-- a plan of words that refusal 8 lets pass has such constraints
pub words-constraints : (m : ℕ) (word : ℕ → ℕ) → good_plan m (plan_of word) ≡ true → AcceptedConstraints (plan_of word).constraints
unfolding plan_of
words-constraints m word good =
    let values : ℕ → Float = λ j. real (word (11 + j)) in
    let n = min (word 10) max_constraints in
    let size = list_below-length values n in
    record {
      few = omega (arith, size);
      doubles = λ k l. reals_fit (λ j. word (11 + j)) n k (omega (arith, size));
      measured = good_constraint_values m (plan_of word) good;
    }
