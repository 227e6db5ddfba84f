-- `root_of_pattern` meets its contract: a pattern is read as m * 2 ^ k units.
use borrow.Author.Rules.{rules}
use mathlib.Core.Path.{◌≡◌, refl, sym, ap, ◌∙◌}
use Prim.Native.Nat.{ℕ, ◌+◌, ◌*◌, ◌-◌, ◌/◌, ◌%◌, ◌^◌, ◌<◌}
use native.Mathlib.Omega.{arith}
use lib.Ieee.{binary64, of_bits}
use Rattle.model.specs.Numbers.{rooted, sqrt_of}
use Rattle.real_laws.proofs.Roots.Pattern.{read_low, read_normal, sqrt_of_odd}
use Rattle.square_root.proofs.root_of_pattern.Statement.{statement}
use Rattle.square_root.proofs.root_of_pattern.Tie as tie

root-of-units-requires : tie.Need-root_of_units-requires
root-of-units-requires c κs = search rules

add-root-of-units : tie.Need-overflow_add-digits
add-root-of-units c = search rules

sub-root-of-units : tie.Need-overflow_sub-field
sub-root-of-units c = search rules

root-of-units-requires-2 : tie.Need-root_of_units-requires-else-field-eq0
root-of-units-requires-2 c κs = search rules

low : (b : ℕ) → 0 < b → b / 2 ^ 52 ≡ 0 → rooted (b % 2 ^ 52 * 2 ^ 0 * 2 ^ 1074) ≡ sqrt_of (of_bits binary64 b)
low b p e = sym (ap sqrt_of (read_low b e) ∙ sqrt_of_odd (b % 2 ^ 52) 0 (omega arith))

normal : (b : ℕ) → (b / 2 ^ 52 ≡ 0 → ⊥) → b < 0x7ff0_0000_0000_0000 → rooted ((2 ^ 52 + b % 2 ^ 52) * 2 ^ (b / 2 ^ 52 - 1) * 2 ^ 1074) ≡ sqrt_of (of_bits binary64 b)
normal b n h = sym (ap sqrt_of (read_normal b (b / 2 ^ 52 - 1) (b % 2 ^ 52) (omega arith) refl (omega arith)) ∙ sqrt_of_odd (2 ^ 52 + b % 2 ^ 52) (b / 2 ^ 52 - 1) (omega arith))

returns : tie.Need-returns-then-field-eq0
returns c = c.root_of_units.ensures ∙ low c.args.b c.requires.0 c.if-field-eq0.true

returns-2 : tie.Need-returns-else-field-eq0
returns-2 c = c.root_of_units-else-field-eq0.ensures ∙ normal c.args.b c.if-field-eq0.false c.requires.1

pub root_of_pattern_spec : {M : Type 1} → statement M
root_of_pattern_spec =
    tie.close
    (tie.spec root-of-units-requires add-root-of-units sub-root-of-units root-of-units-requires-2 returns returns-2)
