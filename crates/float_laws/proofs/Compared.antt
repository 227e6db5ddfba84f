-- The order of floats as tests give it: `lt x y ≡ true`, `lt x y ≡ false`.
use mathlib.Core.Path.{◌≡◌, sym, ◌∙◌}
use mathlib.Core.Bool.{true, false, true≢false}
use lib.Dec.{T, T_not}
use lib.Ieee.{Float, lt, le, is_nan}
use Rattle.list_laws.proofs.Bools.{T_true, true_T, false_T, no_pass}
use Rattle.float_laws.proofs.Order as order

pub lt_trans : (x y z : Float) → lt x y ≡ true → lt y z ≡ true → lt x z ≡ true
lt_trans x y z h k = T_true (lt x z) (order.lt_trans x y z (true_T (lt x y) h) (true_T (lt y z) k))

pub lt_self : (x : Float) → lt x x ≡ false
lt_self x = no_pass (lt x x) (λ e. order.lt_irrefl x (true_T (lt x x) e))

-- what is not below y is not below any z that is
pub lt_down : (x y z : Float) → lt x y ≡ false → lt z y ≡ true → lt x z ≡ false
lt_down x y z h k = no_pass (lt x z) (λ e. true≢false (sym (lt_trans x z y e k) ∙ h))

-- and the same from above
pub lt_up : (x y z : Float) → lt y x ≡ false → lt y z ≡ true → lt z x ≡ false
lt_up x y z h k = no_pass (lt z x) (λ e. true≢false (sym (lt_trans y z x k e) ∙ h))

-- what is below y is below any number that is not
pub lt_past : (x y z : Float) → lt x y ≡ true → lt z y ≡ false → is_nan z ≡ false → lt x z ≡ true
lt_past x y z h k v =
    let l = true_T (lt x y) h in
    T_true (lt x z) (order.lt_le_trans x y z l (order.nlt→le z y (false_T (is_nan z) v) (order.lt_not_nan x y l).1 (false_T (lt z y) k)))

-- what nothing but a NaN could hide: where y is not below x, x is at most y
pub lt_le : (x y : Float) → is_nan x ≡ false → is_nan y ≡ false → lt y x ≡ false → T (le x y)
lt_le x y a b h = order.nlt→le y x (false_T (is_nan y) b) (false_T (is_nan x) a) (false_T (lt y x) h)

-- a NaN is below nothing, and nothing is below a NaN
pub nan-below : (x y : Float) → is_nan x ≡ true → lt x y ≡ false
nan-below x y e = no_pass (lt x y) (λ l. T_not (is_nan x) (order.lt_not_nan x y (true_T (lt x y) l)).0 (true_T (is_nan x) e))

pub below_nan : (x y : Float) → is_nan y ≡ true → lt x y ≡ false
below_nan x y e = no_pass (lt x y) (λ l. T_not (is_nan y) (order.lt_not_nan x y (true_T (lt x y) l)).1 (true_T (is_nan y) e))
