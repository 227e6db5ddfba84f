-- Document 02, M-113: "Roots in order." Said of the definitions P, R and `spread` of `model`, which the code is proved equal to. A double is what
-- `fits binary64` holds of.
use Rattle.std.specs.Prelude.{◌≡◌, ℕ, T, Float}
use Rattle.std.specs.Float.{binary64}
use Rattle.std.specs.Float.Ieee.{fits, le, lt}
use Rattle.model.specs.Real.{real, nought, half, unit}
use Rattle.model.specs.Numbers.{P, R}
use Rattle.model.specs.Setting.{draw_unit, spread_argument, spread}

-- 2^51 and 2^52
abbrev pub largest : Float
largest = real 0x4320_0000_0000_0000

abbrev pub top : Float
top = real 0x4330_0000_0000_0000

-- 1 - 2^-52, the greatest value of `f64()`: (word div 2^12) / 2^52; and 1 - 2^-53, the one double between it and 1
abbrev pub last_draw : Float
last_draw = real 0x3fef_ffff_ffff_fffe

abbrev pub last_below_one : Float
last_below_one = real 0x3fef_ffff_ffff_ffff

-- a double within 0..high, both ends included
pub record Within (high x : Float) : Type 0 where
  pub held : T (fits binary64 x)
  pub from : T (le nought x)
  pub to : T (le x high)

-- "the greatest double within 0..2^52 whose rounded power P is at most v, among all such doubles and not just its neighbours": -0.0 too
pub record Greatest (v : Float) (k : ℕ) (r : Float) : Type 0 where
  pub within : Within top r
  pub power : T (le (P r k) v)
  pub most : (y : Float) → Within top y → T (le (P y k) v) → T (le y r)

pub record RootsInOrder : Type 0 where
  -- "For v above 0 and up to 2^51, and k from 1 to 100, R(v, k) is the greatest double within 0..2^52 whose rounded power P is at most v, among all such
  -- doubles and not just its neighbours." It holds for every k, so no bound of k is asked for.
  pub greatest : (v : Float) (k : ℕ) → T (lt nought v) → T (le v largest) → Greatest v k (R v k)
  -- "For 0 <= v <= w <= 2^51, R(v, k) is at most R(w, k)." It holds however large w is, and for every k.
  pub rising : (v w : Float) (k : ℕ) → T (le nought v) → T (le v w) → T (le (R v k) (R w k))
  -- "Consequently the SBX spread never falls as its draw rises, on either half of the range." Up to one half; of all doubles there, so of every draw.
  pub lower_half : (u w : Float) (k : ℕ) → T (fits binary64 u) → T (fits binary64 w) → T (le nought u) → T (le u w) → T (le w half) → T (le (spread u k) (spread w k))
  -- above one half; of all doubles below 1
  pub upper_half : (u w : Float) (k : ℕ) → T (fits binary64 u) → T (fits binary64 w) → T (lt half u) → T (le u w) → T (lt w unit) → T (le (spread u k) (spread w k))
  -- "Consequently": what R is taken of rises with the draw, on either half and from one half to the other; of all doubles of 0 <= u <= w < 1
  pub argument_rising : (u w : Float) → T (fits binary64 u) → T (fits binary64 w) → T (le nought u) → T (le u w) → T (lt w unit) → T (le (spread_argument u) (spread_argument w))
  -- and stays within 0..2^51, where `greatest` holds of all but 0, up to the greatest draw, whose argument is 2^51. That of 1 - 2^-53, which no draw is, is 2^52:
  -- the order holds there, `greatest` is not said.
  pub argument_within : (u : Float) → Within last_draw u → Within largest (spread_argument u)
  pub argument_of_last : spread_argument last_draw ≡ largest
  pub argument_past_last : spread_argument last_below_one ≡ top
  -- Of the draws themselves: what `f64()` gives from any state lies within 0 .. 1 - 2^-52, what R is taken of lies within 0..2^51, and of two draws the
  -- greater has the greater spread or an equal one, on either half and from one half to the other.
  pub drawn : (s : ℕ) → Within last_draw (draw_unit s).value
  pub drawn_argument : (s : ℕ) → Within largest (spread_argument (draw_unit s).value)
  pub drawn_spread : (s t k : ℕ) → T (le (draw_unit s).value (draw_unit t).value) → T (le (spread (draw_unit s).value k) (spread (draw_unit t).value k))
