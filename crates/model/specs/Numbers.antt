-- Document 01, "Worked-out numbers".
use Rattle.std.specs.Prelude.{ℕ, zero, suc, ◌+◌, ◌-◌, ◌*◌, ◌/◌, ◌^◌, true, false, cond, ℤ, leb, ltb, Float}
use Rattle.std.specs.Float.{nan, inf, fin, binary64}
use Rattle.std.specs.Float.Ieee.{round, up, down, size, odd, le, eq}
use Rattle.model.specs.Real.{◌⊕◌, ◌⊗◌, ◌⊘◌, real, nought, two}

-- ---- "`sqrt`: the double nearest the exact root (IEEE 754), said over whole numbers"
-- A finite double is a whole number n of units, 2 ^ -1074 each. In units its root is the root of n * 2 ^ 1074, a number of 538 binary digits or more,
-- of which a double keeps the 53 leading ones.

-- from the root r of n / 4 to that of n: one binary digit more, which is 1 if its square is not beyond n
unfoldable pub grown : ℕ → ℕ → ℕ
grown n r = cond (leb ((r + r + 1) * (r + r + 1)) n) (r + r + 1) (r + r)

-- the largest q with q * q ≤ n, for an n below 4 ^ i
unfoldable pub root_in : ℕ → ℕ → ℕ
unfolding grown
root_in zero n = 0
root_in (suc i) n = grown n (root_in i (n / 4))

-- the largest q with q * q ≤ n: n is below 4 ^ (how many binary digits it has)
unfoldable pub whole_root : ℕ → ℕ
unfolding root_in size
whole_root n = root_in (size n) n

-- The whole number nearest to the root of n: q, or q + 1 where n is beyond (q + 1/2) * (q + 1/2), which is q * q + q + 1/4. So there is never a tie.
unfoldable pub closer : ℕ → ℕ → ℕ
closer n q = cond (ltb (q * q + q) n) (suc q) q

unfoldable pub near_root : ℕ → ℕ
unfolding whole_root closer
near_root n = closer n (whole_root n)

-- how many of its lowest digits the root of n drops to keep 53: a root has half as many digits as n has, rounded up
abbrev pub dropped : ℕ → ℕ
dropped n = (size n - 105) / 2

-- The double nearest to the exact root of n, counted in units: the multiple of 2 ^ k units that is nearest, for the k digits dropped.
-- For a double's root the division by 4 ^ k leaves no remainder, and the multiple is by a number of 53 digits.
unfoldable pub rooted : ℕ → Float
unfolding near_root odd size
rooted n = odd 53 false (near_root (n / 2 ^ (2 * dropped n))) (dropped n) 1074

-- a finite double's size in units; the division leaves no remainder
abbrev pub unit_count : ℕ → ℤ → ℕ
unit_count m e = m * up e * 2 ^ 1074 / down e

-- IEEE 754's square root. A zero is its own root with its sign, and nothing else below zero has one.
unfoldable pub sqrt_of : Float → Float
unfolding rooted
sqrt_of nan = nan
sqrt_of (inf true) = nan
sqrt_of (inf false) = inf false
sqrt_of (fin s zero e) = fin s zero e
sqrt_of (fin true (suc m) e) = nan
sqrt_of (fin false (suc m) e) = rooted (unit_count (suc m) e * 2 ^ 1074)

-- ---- "`round`: nearest whole number, halves away from zero": the sign stands, and the magnitude becomes the whole part of it and a half
unfoldable pub round_of : Float → Float
unfolding round
round_of nan = nan
round_of (inf s) = inf s
round_of (fin s m e) = round binary64 s ((2 * (m * up e) + down e) / (2 * down e)) 1

-- ---- "`midpoint` is half the rounded sum"
abbrev pub midpoint : Float → Float → Float
midpoint a b = (a ⊕ b) ⊘ two

-- ---- "`powi(2)` one product"
abbrev pub square : Float → Float
square x = x ⊗ x

-- ---- "P(y, 1) = y, P(y, j+1) = P(y, j) × y rounded"; `power_up y j` is P(y, j + 1)
unfoldable pub power_up : Float → ℕ → Float
power_up y zero = y
power_up y (suc j) = power_up y j ⊗ y

abbrev pub P : Float → ℕ → Float
P y k = power_up y (k - 1)

-- ---- "R(0, k) = 0. For other v, .. R(v, k) is found by halving over bit patterns, lower end 0, upper end 2^52, middle rounded down,
-- keeping P(lower) <= v < P(upper), until the ends are neighbours; the lower is R."

-- two bit patterns of doubles from 0 on
pub record Ends : Type 0 where
  pub lower : ℕ
  pub upper : ℕ

abbrev pub ends : ℕ → ℕ → Ends
ends a b = record { lower = a; upper = b }

-- the half whose ends keep P(lower) <= v < P(upper), where `middle` parts the two
unfoldable pub half_by : Float → ℕ → Ends → ℕ → Ends
half_by v k e middle = cond (le (P (real middle) k) v) (ends middle e.upper) (ends e.lower middle)

-- one halving; neighbours stay as they are
unfoldable pub halved : Float → ℕ → Ends → Ends
halved v k e = cond (leb e.upper (suc e.lower)) e (half_by v k e ((e.lower + e.upper) / 2))

-- the ends after n halvings
unfoldable pub halvings : Float → ℕ → ℕ → Ends
halvings v k zero = ends 0 0x4330_0000_0000_0000
halvings v k (suc n) = halved v k (halvings v k n)

-- 63 halvings make neighbours of ends that are less than 2^63 apart
unfoldable pub R : Float → ℕ → Float
R v k = cond (eq v nought) nought (real (halvings v k 63).lower)
