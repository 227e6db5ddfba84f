-- The numbers from a to b, both within 2^53 of 0, and how many there are.
use mathlib.Core.Path.{◌≡◌}
use Prim.Native.Nat.{ℕ, ◌+◌, ◌-◌, ◌%◌, ◌^◌, ◌<◌, ◌≤◌}
use native.Mathlib.Nat.{mod-lt}
use native.Mathlib.Omega.{arith}
use lib.Dec.{T}
use lib.IntN.{ℤ, pos, neg_ℤ, nat_abs, ◌+ℤ◌, ◌-ℤ◌}
use lib.Signed.{non_neg, ◌≤ℤ◌}
use mir.Syntax.{w64}
use mir.Val.{SFits, Fits}
use Rattle.rng_util.specs.Span.{Spanned}
use Rattle.rng_util.proofs.Shifted.{up, in_up, le_up, up_le, up-add, up_neg, up_from}

module _ (a b : ℤ) (fa : SFits w64 a) (fb : SFits w64 b) (h : Spanned a b) where
  ord : up a ≤ up b
  ord = le_up a b h.0

  low : 2 ^ 64 - 2 ^ 53 ≤ up a
  low = le_up _ a h.1

  high : up b ≤ 2 ^ 64 + 2 ^ 53
  high = le_up b _ h.2

  neg-fits : SFits w64 (neg_ℤ a)
  neg-fits = let e = up_neg a fa.sfits in in_up (neg_ℤ a) (omega (arith, ord, low, high)) (omega (arith, ord, low, high))

  diff_up : up (b -ℤ a) + up a ≡ up b + 2 ^ 64
  diff_up = let e = up_neg a fa.sfits in let f = up-add b (neg_ℤ a) fb.sfits neg-fits.sfits in omega arith

  pub diff_fits : SFits w64 (b -ℤ a)
  diff_fits = in_up (b -ℤ a) (omega (arith, diff_up, ord, low, high)) (omega (arith, diff_up, ord, low, high))

  pub diff_non_neg : T (non_neg (b -ℤ a))
  diff_non_neg = (up_from (b -ℤ a) (omega (arith, diff_up, ord))).0

  pub diff_abs : nat_abs (b -ℤ a) + up a ≡ up b
  diff_abs = omega (arith, diff_up, (up_from (b -ℤ a) (omega (arith, diff_up, ord))).1)

  pub diff_abs_below : nat_abs (b -ℤ a) ≤ 2 ^ 54
  diff_abs_below = omega (arith, diff_abs, low, high)

  span-up : up (b -ℤ a +ℤ pos 1) + up a ≡ up b + 2 ^ 64 + 1
  span-up = let f = up-add (b -ℤ a) (pos 1) diff_fits.sfits (omega arith) in omega (arith, diff_up)

  pub span_fits : SFits w64 (b -ℤ a +ℤ pos 1)
  span_fits = in_up (b -ℤ a +ℤ pos 1) (omega (arith, span-up, ord, low, high)) (omega (arith, span-up, ord, low, high))

  span_pos : 2 ^ 64 < up (b -ℤ a +ℤ pos 1)
  span_pos = omega (arith, span-up, ord)

  pub span_non_neg : T (non_neg (b -ℤ a +ℤ pos 1))
  span_non_neg = (up_from (b -ℤ a +ℤ pos 1) (omega (arith, span_pos))).0

  -- as many as there are, and one at least
  pub span_abs : nat_abs (b -ℤ a +ℤ pos 1) + up a ≡ up b + 1
  span_abs = omega (arith, (up_from (b -ℤ a +ℤ pos 1) (omega (arith, span_pos))).1, span-up)

  pub span-some : 0 < nat_abs (b -ℤ a +ℤ pos 1)
  span-some = omega (arith, span_abs, ord)

  pub span_abs_fits : Fits w64 (nat_abs (b -ℤ a +ℤ pos 1))
  span_abs_fits = record { fits = omega (arith, span_abs, low, high) }

  pub rest_le : (word : ℕ) → word % nat_abs (b -ℤ a +ℤ pos 1) ≤ nat_abs (b -ℤ a)
  rest_le word = omega (arith, mod-lt word span-some, span_abs, diff_abs)

  -- a number of them, k above the least
  module _ (k : ℕ) (l : k ≤ nat_abs (b -ℤ a)) where
    pub above-fits : SFits w64 (pos k)
    above-fits = record { sfits = omega (arith, diff_abs_below) }

    pick_up : up (a +ℤ pos k) ≡ up a + k
    pick_up = omega (arith, up-add a (pos k) fa.sfits above-fits.sfits)

    pub pick_fits : SFits w64 (a +ℤ pos k)
    pick_fits = in_up _ (omega (arith, pick_up, diff_abs, low, high)) (omega (arith, pick_up, diff_abs, low, high))

    pub pick_low : a ≤ℤ (a +ℤ pos k)
    pick_low = up_le a _ fa pick_fits (omega (arith, pick_up))

    pub pick_high : (a +ℤ pos k) ≤ℤ b
    pick_high = up_le _ b pick_fits fb (omega (arith, pick_up, diff_abs))
