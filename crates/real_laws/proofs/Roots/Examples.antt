-- `sqrt_of` at numbers, computed. The patterns are those of the doubles that a C library's `sqrt` returns.
use mathlib.Core.Path.{◌≡◌, refl}
use mathlib.Core.Bool.{true, false}
use lib.IntN.{pos, negsuc}
use lib.Ieee.{nan, fin, binary64, of_bits}
use Rattle.model.specs.Numbers.{sqrt_of}

four : sqrt_of (fin false 1 (pos 2)) ≡ fin false 1 (pos 1)
unfolding sqrt_of
four = refl

two : sqrt_of (of_bits binary64 0x4000_0000_0000_0000) ≡ of_bits binary64 0x3ff6_a09e_667f_3bcd
unfolding sqrt_of of_bits
two = refl

quarter : sqrt_of (fin false 1 (negsuc 1)) ≡ fin false 1 (negsuc 0)
unfolding sqrt_of
quarter = refl

-- the smallest positive double, 2 ^ -1074, has the root 2 ^ -537
smallest : sqrt_of (of_bits binary64 1) ≡ fin false 1 (negsuc 536)
unfolding sqrt_of of_bits
smallest = refl

-- the largest subnormal
subnormal : sqrt_of (of_bits binary64 0x000f_ffff_ffff_ffff) ≡ of_bits binary64 0x1fff_ffff_ffff_ffff
unfolding sqrt_of of_bits
subnormal = refl

largest : sqrt_of (of_bits binary64 0x7fef_ffff_ffff_ffff) ≡ of_bits binary64 0x5fef_ffff_ffff_ffff
unfolding sqrt_of of_bits
largest = refl

-- -0 is its own root, and no number below it has one
minus_zero : sqrt_of (fin true 0 (pos 0)) ≡ fin true 0 (pos 0)
unfolding sqrt_of
minus_zero = refl

minus_one : sqrt_of (fin true 1 (pos 0)) ≡ nan
unfolding sqrt_of
minus_one = refl
