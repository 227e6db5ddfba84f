-- `root_of_units` meets its contract: `Parts` has what the shift makes of m, and what is put together at the end is read as the double that `rooted` writes.
use mathlib.Core.Path.{◌≡◌, sym, ap, ◌∙◌, subst}
use Prim.Native.Nat.{ℕ, ◌+◌, ◌*◌, ◌-◌, ◌/◌, ◌%◌, ◌^◌, ◌<◌, ◌≤◌}
use native.Mathlib.Omega.{arith}
use mathlib.Core.Bool.{not, false}
use lib.Dec.{T}
use lib.Ieee.{binary64, of_bits, nan_bits, odd}
use Rattle.model.specs.Numbers.{near_root, rooted}
use Rattle.real_laws.proofs.Roots.Scaled.{Parts, parts, exponent, moved}
use Rattle.real_laws.proofs.Roots.Pattern.{written, written_no_nan}
use Rattle.square_root.proofs.root_of_units.Statement.{statement}
use Rattle.square_root.proofs.root_of_units.Tie as tie

known : (c : tie.Start) → Parts c.args.m c.args.k
known c = parts c.args.m c.args.k c.requires.0 c.requires.1

cast-s : tie.Need-overflow_cast-s
cast-s c = let p = known c in omega arith

sub-s : tie.Need-overflow_sub-s
sub-s c = let p = known c in omega arith

add-e : tie.Need-overflow_add-e
add-e c = omega arith

sub-e : tie.Need-overflow_sub-e
sub-e c = let p = known c in omega arith

add-near-root : tie.Need-overflow_add-s
add-near-root c = let p = known c in omega arith

shl-near-root : tie.Need-overflow_shl-m
shl-near-root c = let p = known c in omega arith

near-root-requires : tie.Need-near_root-q-requires
near-root-requires c κs = let p = known c in omega arith

sub-result : tie.Need-overflow_sub-result
sub-result c = let p = known c.before in omega arith

-- the result, by the digits with nothing shifted out; and the field
module _ (m k q : ℕ) (p : Parts m k) (e : q ≡ near_root ((m * 2 ^ moved m k) % 2 ^ 64 * 2 ^ 52)) (h : k ≤ 2045) where
  digits : q ≡ near_root (m * 2 ^ moved m k * 2 ^ 52)
  digits = e ∙ ap (λ (a : ℕ). near_root (a * 2 ^ 52)) p.shifted

  field_lt : exponent m k / 2 - 26 < 2046
  field_lt = omega arith

  whole : (exponent m k / 2 - 26) * 2 ^ 52 % 2 ^ 64 ≡ (exponent m k / 2 - 26) * 2 ^ 52
  whole = omega arith

  from : 2 ^ 52 ≤ q
  from = subst (λ (x : ℕ). 2 ^ 52 ≤ x) (sym digits) p.root_low

  to : q < 2 ^ 53
  to = subst (λ (x : ℕ). x < 2 ^ 53) (sym digits) p.root_high

  fits : (exponent m k / 2 - 26) * 2 ^ 52 % 2 ^ 64 + q < 2 ^ 64
  fits = let a = to in let b = field_lt in omega arith

  no_nan : T (not (nan_bits binary64 ((exponent m k / 2 - 26) * 2 ^ 52 % 2 ^ 64 + q)))
  no_nan = subst (λ (x : ℕ). T (not (nan_bits binary64 (x + q)))) (sym whole) (written_no_nan (exponent m k / 2 - 26) q field_lt from to)

  result : of_bits binary64 ((exponent m k / 2 - 26) * 2 ^ 52 % 2 ^ 64 + q) ≡ rooted (m * 2 ^ k * 2 ^ 1074)
  result =
      ap (λ (x : ℕ). of_bits binary64 (x + q)) whole
      ∙ written (exponent m k / 2 - 26) q field_lt from to
      ∙ ap (λ (x : ℕ). odd 53 false x (exponent m k / 2 - 26) 1074) digits
      ∙ sym p.is

add-result : tie.Need-overflow_add-result
add-result c = record { fits = fits c.args.m c.args.k c.near_root-q.result (known c.before) c.near_root-q.ensures c.requires.2 }

float-from-bits-result : tie.Need-float_from_bits-result
float-from-bits-result c = no_nan c.args.m c.args.k c.near_root-q.result (known c.before) c.near_root-q.ensures c.requires.2

returns : tie.Need-returns
returns c = result c.args.m c.args.k c.near_root-q.result (known c.before) c.near_root-q.ensures c.requires.2

pub root_of_units_spec : {M : Type 1} → statement M
root_of_units_spec =
    tie.close
    (tie.spec
    cast-s
    sub-s
    add-e
    sub-e
    add-near-root
    shl-near-root
    near-root-requires
    sub-result
    add-result
    float-from-bits-result
    returns)
