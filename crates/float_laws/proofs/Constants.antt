-- 0, 1 and the powers of two, by their values, with their counts. A literal of the code is `of_bits binary64 N`: under `unfolding of_bits` it is the same.
--
use mathlib.Core.Path.{refl, sym, ap, ◌∙◌}
use Prim.Native.Nat.{ℕ, ◌*◌, ◌^◌}
use native.Mathlib.Nat.{zero-add, one-mul, mul-one, zero-mul}
use native.Mathlib.Omega.{arith}
use mathlib.Core.Bool.{true, false, not}
use lib.Dec.{T}
use lib.IntN.{pos}
use lib.Ieee.{Float, fin, Format, binary32, binary64, low, fits, le, lt, neg, is_nan}
use Rattle.float_laws.proofs.Units.{Number, Counts}
use Rattle.float_laws.proofs.Order.{le_trans, le_not_nan}
use Rattle.float_laws.proofs.Rounding.{unsigned, minus_below}

abbrev pub nought : Float
nought = fin false 0 (pos 0)

abbrev pub one : Float
one = fin false 1 (pos 0)

-- how many units of a double make 1
abbrev pub L : ℕ
L = 2 ^ 1074

-- 2 ^ k and -(2 ^ k)
abbrev pub exp2 : ℕ → Float
exp2 k = fin false 1 (pos k)

abbrev pub minus_exp2 : ℕ → Float
minus_exp2 k = fin true 1 (pos k)

pub nought-counts : (f : Format) → Counts f nought 0 0
nought-counts f = (0, zero-mul (2 ^ low f), refl)

pub one-counts : (f : Format) → Counts f one (2 ^ low f) 0
one-counts f = (2 ^ low f, one-mul (2 ^ low f) ∙ sym (mul-one (2 ^ low f)), omega arith)

pub exp2-counts : (k : ℕ) → Counts binary64 (exp2 k) (2 ^ k * L) 0
exp2-counts k = (2 ^ k * L, ap (λ (x : ℕ). x * L) (one-mul (2 ^ k)) ∙ sym (mul-one (2 ^ k * L)), sym (zero-add (2 ^ k * L)))

pub nought-fits : (f : Format) → T (fits f nought)
unfolding fits
nought-fits binary32 = tt
nought-fits binary64 = tt

pub one-fits : (f : Format) → T (fits f one)
unfolding fits
one-fits binary32 = tt
one-fits binary64 = tt

pub nought-number : (f : Format) → Number f nought
nought-number f = record { held = nought-fits f; finite = tt }

pub one_number : (f : Format) → Number f one
one_number f = record { held = one-fits f; finite = tt }

pub nought-not-nan : T (not (is_nan nought))
unfolding is_nan
nought-not-nan = tt

pub nought_lt_one : T (lt nought one)
unfolding lt
nought_lt_one = tt

pub nought_le_one : T (le nought one)
unfolding le
nought_le_one = tt

-- what has the sign clear is from 0 up, and no NaN
pub unsigned-from : (x : Float) → T (unsigned x) → T (le nought x)
unfolding le neg
unsigned-from x u = le_trans nought (neg nought) x tt (minus_below nought x tt u)

pub unsigned-not-nan : (x : Float) → T (unsigned x) → T (not (is_nan x))
unsigned-not-nan x u = (le_not_nan nought x (unsigned-from x u)).1
