-- The map's value is the product's and the sum's remainders.
use Rattle.std.proofs.Common.{◌≡◌, ℕ, ◌+◌, ◌*◌, ◌%◌, ◌^◌, arith}
use Rattle.jump_laws.specs.Steps.{applied}
use Rattle.jump.proofs.applied.Goals as goal

is_applied : (a c s p r : ℕ) → p ≡ (s * a) % 2 ^ 64 → r ≡ (p + c) % 2 ^ 64 → r ≡ applied a c s
unfolding applied
is_applied a c s p r e f = omega arith

pub returns : goal.returns
returns c = is_applied c.args.a c.args.c c.args.s c.wrapping_mul_u64-p.result c.wrapping_add_u64.result c.wrapping_mul_u64-p.ensures c.wrapping_add_u64.ensures.value
