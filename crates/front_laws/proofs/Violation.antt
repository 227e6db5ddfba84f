-- Laws of feasibility and of the violation sum, place by place.
use Prim.Native.Nat.{ℕ, ◌+◌}
use mathlib.Core.Path.{◌≡◌, refl, sym, ap, ◌∙◌}
use mathlib.Core.Bool.{Bool, true, cond}
use mathlib.Core.List.{List, []}
use lib.Ieee.{Float, nan, lt, le}
use lib.ListN.{length, get_or}
use Rattle.model.specs.Lists.{all_below, all_in}
use Rattle.model.specs.Real.{◌⊕◌, nought, minus_nought, sum_to}
use Rattle.model.specs.Row.{feasible, excess, violation}
use Rattle.float_laws.proofs.Sums.{sum_none, sum_more}
use Rattle.list_laws.proofs.Tests.{all_in-below}

pub feasible-below : (cs : List Float) → feasible cs ≡ all_below (λ k. le (get_or cs k nan) nought) (length cs)
unfolding feasible
feasible-below cs = all_in-below (λ c. le c nought) nan cs

-- "none at all is feasible"
pub feasible_none : feasible [] ≡ true
unfolding feasible all_in
feasible_none = refl

-- the violation of the first i constraints
abbrev pub violation_to : List Float → ℕ → Float
violation_to cs i = sum_to (λ k. excess (get_or cs k nan)) i

pub violation_none : (cs : List Float) → violation_to cs 0 ≡ minus_nought
violation_none cs = sum_none (λ k. excess (get_or cs k nan))

-- one more: above 0 it adds itself, else 0
pub violation-more : (cs : List Float) (i : ℕ) (b : Bool) → lt nought (get_or cs i nan) ≡ b → violation_to cs (i + 1) ≡ violation_to cs i ⊕ cond b (get_or cs i nan) nought
violation-more cs i b e = sym (sum_more (λ k. excess (get_or cs k nan)) i (violation_to cs i) refl) ∙ ap (λ b. violation_to cs i ⊕ cond b (get_or cs i nan) nought) e

pub violation-all : (cs : List Float) → violation cs ≡ violation_to cs (length cs)
unfolding violation
violation-all cs = refl
