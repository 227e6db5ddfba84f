-- The step is the product's and the sum's remainders.
use Rattle.std.proofs.Common.{◌≡◌, ℕ, ◌+◌, ◌*◌, ◌%◌, ◌^◌, arith}
use Rattle.model.specs.Draw.{step}
use Rattle.rng_lent.proofs.step.Statement.{statement}
use Rattle.rng_lent.proofs.step.Tie as tie

wrapping-mul-u64-requires : tie.Need-wrapping_mul_u64-p-requires
wrapping-mul-u64-requires c κs = tt

wrapping-add-u64-requires : tie.Need-wrapping_add_u64-requires
wrapping-add-u64-requires c κs = tt

is_step : (s p r : ℕ) → p ≡ (s * 6364136223846793005) % 2 ^ 64 → r ≡ (p + 1442695040888963407) % 2 ^ 64 → r ≡ step s
unfolding step
is_step s p r e f = omega arith

returns : tie.Need-returns
returns c = is_step _ _ _ c.wrapping_mul_u64-p.ensures c.wrapping_add_u64.ensures

pub step_spec : {M : Type 1} → statement M
step_spec = tie.close (tie.spec wrapping-mul-u64-requires wrapping-add-u64-requires returns)
