-- Columns of a product of 32-bit halves.
use Rattle.std.proofs.Common.{◌≡◌, ℕ, ◌+◌, ◌*◌, ◌/◌, ◌%◌, ◌^◌, ◌<◌, sym, refl, ap, ◌∙◌, lt_of_le_of_lt, le_of_lt, add_assoc, mul_assoc, mul_comm, add-mul, add_comm, mul-le-mul_left, div-add-mod', mul-add, mul_left_comm, arith, shl_lt, rules}
use native.Mathlib.Nat.{add_left_comm}
use Rattle.rng_lent.proofs.wrapping_mul_u64.Statement.{statement}
use Rattle.rng_lent.proofs.wrapping_mul_u64.Tie as tie

below : {x y : ℕ} → x < 2 ^ 32 → y < 2 ^ 32 → x * y < 2 ^ 64
below {x} hx hy = lt_of_le_of_lt (mul-le-mul_left x (le_of_lt hy)) (shl_lt 32 32 hx)

expand : (P a₀ a₁ b₀ b₁ : ℕ) → (a₁ * P + a₀) * (b₁ * P + b₀) ≡ a₁ * b₁ * (P * P) + a₁ * b₀ * P + a₀ * b₁ * P + a₀ * b₀
expand P a₀ a₁ b₀ b₁ = simp (mul-add, add-mul, mul_assoc, mul_comm, mul_left_comm, add_assoc, add_comm, add_left_comm) refl

low_sum : (p q : ℕ) → (p % 2 ^ 32 + q % 2 ^ 32) % 2 ^ 32 ≡ (p + q) % 2 ^ 32
low_sum p q = omega arith

drop-top : (k t : ℕ) → (k * 2 ^ 64 + t) % 2 ^ 64 ≡ t % 2 ^ 64
drop-top k t = omega arith

regroup : (ab w u z : ℕ) → ab ≡ w * (2 ^ 32 * 2 ^ 32) + u * 2 ^ 32 + z → ab ≡ (w + u / 2 ^ 32) * 2 ^ 64 + (u % 2 ^ 32 * 2 ^ 32 + z)
regroup ab w u z e = omega arith

columns : (ab w p q z : ℕ) → ab ≡ w * (2 ^ 32 * 2 ^ 32) + p * 2 ^ 32 + q * 2 ^ 32 + z →
    ((p % 2 ^ 32 + q % 2 ^ 32) % 2 ^ 32 * 2 ^ 32 + z) % 2 ^ 64 ≡ ab % 2 ^ 64
columns ab w p q z e =
    ap (λ (m : ℕ). (m * 2 ^ 32 + z) % 2 ^ 64) (low_sum p q)
    ∙ sym (drop-top (w + (p + q) / 2 ^ 32) ((p + q) % 2 ^ 32 * 2 ^ 32 + z))
    ∙ ap (λ (n : ℕ). n % 2 ^ 64) (sym (regroup ab w (p + q) z (e ∙ simp (add-mul, add_assoc) refl)))

halves : (a b : ℕ) → a * b ≡ (a / 2 ^ 32) * (b / 2 ^ 32) * (2 ^ 32 * 2 ^ 32) + (a / 2 ^ 32) * (b % 2 ^ 32) * 2 ^ 32 + (a % 2 ^ 32) * (b / 2 ^ 32) * 2 ^ 32 + (a % 2 ^ 32) * (b % 2 ^ 32)
halves a b = (λ i. sym (div-add-mod' a (2 ^ 32)) i * sym (div-add-mod' b (2 ^ 32)) i) ∙ expand (2 ^ 32) (a % 2 ^ 32) (a / 2 ^ 32) (b % 2 ^ 32) (b / 2 ^ 32)

mul-x : tie.Need-overflow_mul-x
mul-x c = record { fits = below (omega arith) (omega arith) }

mul-y : tie.Need-overflow_mul-y
mul-y c = record { fits = below (omega arith) (omega arith) }

add-m : tie.Need-overflow_add-m
add-m c = search rules

mul-wrapping-add-u64 : tie.Need-overflow_mul-m
mul-wrapping-add-u64 c = search rules

mul-wrapping-add-u64-2 : tie.Need-overflow_mul-a0
mul-wrapping-add-u64-2 c = record { fits = below (omega arith) (omega arith) }

wrapping-add-u64-requires : tie.Need-wrapping_add_u64-requires
wrapping-add-u64-requires c κs = tt

returns : tie.Need-returns
returns c =
    let a = c.args.a in
    let b = c.args.b in
    c.wrapping_add_u64.ensures ∙ columns (a * b) (a / 2 ^ 32 * (b / 2 ^ 32)) (a / 2 ^ 32 * (b % 2 ^ 32)) (a % 2 ^ 32 * (b / 2 ^ 32)) (a % 2 ^ 32 * (b % 2 ^ 32)) (halves a b)

pub wrapping_mul_u64_spec : {M : Type 1} → statement M
wrapping_mul_u64_spec =
    tie.close
    (tie.spec
    mul-x
    mul-y
    add-m
    mul-wrapping-add-u64
    mul-wrapping-add-u64-2
    wrapping-add-u64-requires
    returns)
