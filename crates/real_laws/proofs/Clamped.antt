-- What is clamped lies within the bounds, unless it is a NaN.
use mathlib.Core.Bool.{not, cond}
use lib.Dec.{T}
use lib.Ieee.{Float, le, lt, is_nan}
use Rattle.float_laws.proofs.Order.{le_refl, le_not_nan, nlt→le}
use Rattle.model.specs.Real.{within, clamp}
use Rattle.list_laws.proofs.Bools.{by_cond, false_T, and_i}

pub clamp-within : (low high x : Float) → T (le low high) → T (not (is_nan x)) → T (within low high (clamp low high x))
clamp-within low high x h k =
    let n = le_not_nan low high h in
    let C : Float → Type 0 = λ y. T (within low high y) in
    by_cond C (lt x low) low (cond (lt high x) high x) (λ a. and_i (le low low) (le low high) (le_refl low n.0) h)
    (λ a. by_cond C (lt high x) high x (λ b. and_i (le low high) (le high high) h (le_refl high n.1))
    (λ b. and_i (le low x) (le x high) (nlt→le x low k n.0 (false_T (lt x low) a)) (nlt→le high x n.1 k (false_T (lt high x) b))))
