-- A NaN's pattern, without its sign, is above that of the infinity.
use Rattle.std.proofs.Common.{◌≡◌, ℕ, ◌%◌, ◌^◌, ◌<◌, ◌≤◌, Bool, not, T, sym, refl, ◌∙◌, subst, rules, le-ltb, lt-ltb}
use lib.Ieee.{nan, binary64, div, of_bits, nan_bits}
use lib.Ieee.Bits.{nan_bits_is, nan_bits_above}
use Rattle.real_laws.proofs.Nan.{is_nan_lem}
use Rattle.real.proofs.real_of_word.Statement.{statement}
use Rattle.real.proofs.real_of_word.Tie as tie

number : (w : ℕ) → w % 2 ^ 63 ≤ 0x7ff0_0000_0000_0000 → T (not (nan_bits binary64 w))
number w h = subst (λ (b : Bool). T (not b)) (sym (nan_bits_above binary64 w ∙ le-ltb 0x7ff0_0000_0000_0000 (w % 2 ^ 63) h)) tt

no_number : (w : ℕ) → 0x7ff0_0000_0000_0000 < w % 2 ^ 63 → nan ≡ of_bits binary64 w
no_number w h = sym (is_nan_lem (of_bits binary64 w) (sym (nan_bits_is binary64 w) ∙ nan_bits_above binary64 w ∙ lt-ltb 0x7ff0_0000_0000_0000 (w % 2 ^ 63) h))

zeros : div binary64 (of_bits binary64 0) (of_bits binary64 0) ≡ nan
unfolding div of_bits
zeros = refl

float-from-bits-result : tie.Need-float_from_bits-result
float-from-bits-result c = number c.args.w c.if-w-gt9218868437227405312.false

returns : tie.Need-returns-then-w-gt9218868437227405312
returns c = zeros ∙ no_number c.args.w c.if-w-gt9218868437227405312.true

returns-2 : tie.Need-returns-else-w-gt9218868437227405312
returns-2 c = search rules

pub real_of_word_spec : {M : Type 1} → statement M
real_of_word_spec = tie.close (tie.spec float-from-bits-result returns returns-2)
