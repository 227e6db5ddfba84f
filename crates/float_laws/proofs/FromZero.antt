-- Doubles from 0 up to a bound: their sums, differences, products and quotients, and what they leave of 1.
use mathlib.Core.Path.{◌≡◌, refl, subst}
use Prim.Native.Nat.{ℕ}
use lib.Dec.{T, lit≤}
use lib.Ieee.{Float, binary64, fits, neg, add, sub, mul, div, le, lt}
use lib.Ieee.Fits.{add-fits, sub-fits, mul-fits, div-fits}
use Rattle.float_laws.proofs.Units.{Number}
use Rattle.float_laws.proofs.Order as order
use Rattle.float_laws.proofs.Rounding.{minus_below, between_finite}
use Rattle.float_laws.proofs.Constants.{nought, nought-number, one, one_number, exp2, minus_exp2}
use Rattle.float_laws.proofs.Arithmetic.{add_mono, add-from-zero, sub_from_zero, sub_mono, mul-from-zero, mul_mono, ratio, itself}
use Rattle.float_laws.proofs.Magnitude.{Within, within-number, ends-within, sub_within}

pub record Upto (b x : Float) : Type 0 where
  pub held : T (fits binary64 x)
  pub from : T (le nought x)
  pub to : T (le x b)

pub number : (b x : Float) → Number binary64 b → Upto b x → Number binary64 x
number b x B u = record { held = u.held; finite = between_finite nought x b tt B.finite u.from u.to }

-- a bound may be widened
pub upto-wider : (a b x : Float) → T (le a b) → Upto a x → Upto b x
upto-wider a b x h u = record { held = u.held; from = u.from; to = order.le_trans x a b u.to h }

-- what lies within 0..2 ^ k is at most 2 ^ k in magnitude
pub upto-within : (k : ℕ) (x : Float) → Upto (exp2 k) x → Within k x
unfolding neg
upto-within k x u = record { held = u.held; low = order.le_trans (minus_exp2 k) nought x (minus_below (exp2 k) nought tt tt) u.from; high = u.to }

-- a difference from 0 up of doubles of magnitude at most 2 ^ 1000 is a number
pub sub_number : (x y : Float) → Number binary64 x → Number binary64 y → T (le x (exp2 1000)) → T (le (minus_exp2 1000) y) → T (le y x) → Number binary64 (sub binary64 x y)
sub_number x y X Y h k l =
    let w = ends-within 1000 y x Y.held X.held l k h in
    within-number 1001 (sub binary64 x y) (sub_within 1000 x y (lit≤ tt) w.1 w.0)

-- ---- sums and products

module _ (a b x y : Float) (A : Number binary64 a) (B : Number binary64 b) (u : Upto a x) (v : Upto b y) where
  X : Number binary64 x
  X = number a x A u

  Y : Number binary64 y
  Y = number b y B v

  pub add-upto : (c : Float) → add binary64 a b ≡ c → Upto c (add binary64 x y)
  add-upto c e = record {
    held = add-fits binary64 x y;
    from = add-from-zero binary64 x y X Y u.from v.from;
    to = subst (λ (z : Float). T (le (add binary64 x y) z)) e (add_mono binary64 x a y b X A Y B u.to v.to);
  }

  pub mul-upto : (c : Float) → mul binary64 a b ≡ c → Upto c (mul binary64 x y)
  mul-upto c e = record {
    held = mul-fits binary64 x y;
    from = mul-from-zero binary64 x y X Y u.from v.from;
    to = subst (λ (z : Float). T (le (mul binary64 x y) z)) e (mul_mono binary64 x a y b X A Y B u.from v.from u.to v.to);
  }

-- ---- differences: of what is at most a, less what is at least b and no greater
pub sub_upto : (x y a b c : Float) → Number binary64 x → Number binary64 y → Number binary64 a → Number binary64 b → T (le y x) → T (le x a) → T (le b y) → sub binary64 a b ≡ c
    → Upto c (sub binary64 x y)
sub_upto x y a b c X Y A B h k l e = record {
  held = sub-fits binary64 x y;
  from = sub_from_zero binary64 x y X Y h;
  to = subst (λ (z : Float). T (le (sub binary64 x y) z)) e (sub_mono binary64 x a y b X A Y B k l);
}

-- ---- within 0..1

pub one_times_one : mul binary64 one one ≡ one
unfolding mul
one_times_one = refl

one-less-nought : sub binary64 one nought ≡ one
unfolding sub
one-less-nought = refl

pub rest-upto : (y : Float) → Upto one y → Upto one (sub binary64 one y)
rest-upto y u =
    let I = one_number binary64 in
    sub_upto one y one nought one I (number one y I u) I (nought-number binary64) u.to (itself one I) u.from one-less-nought

-- a part of a whole above 0, as a share of it
pub share : (x y : Float) → Number binary64 y → Upto y x → T (lt nought y) → Upto one (div binary64 x y)
share x y Y u l = let r = ratio binary64 x y (number y x Y u) Y u.from u.to l in record { held = div-fits binary64 x y; from = r.0; to = r.1 }
