-- The definition's exclusive or, which computes on words, is the logic's, which the code's `^` is.
use Rattle.std.proofs.Common.{◌≡◌, ℕ, zero, suc, ◌+◌, ◌*◌, ◌/◌, ◌%◌, ◌^◌, ◌<◌, sym, refl, ◌∙◌, ap₂, pow-suc, arith}
use lib.Arith.{lt-one}
use lib.Bits.{differ, bit_xor, xor_step}
use Rattle.model.specs.Draw.{xor_low}

-- two digits differ where their sum is odd
differ_sum : (x y : ℕ) → x < 2 → y < 2 → differ x y ≡ (x + y) % 2
differ_sum zero zero h k = refl
differ_sum zero (suc zero) h k = refl
differ_sum zero (suc (suc y)) h k = absurd (omega arith)
differ_sum (suc zero) zero h k = refl
differ_sum (suc zero) (suc zero) h k = refl
differ_sum (suc zero) (suc (suc y)) h k = absurd (omega arith)
differ_sum (suc (suc x)) y h k = absurd (omega arith)

digit : (a b : ℕ) → differ (a % 2) (b % 2) ≡ (a + b) % 2
digit a b = differ_sum (a % 2) (b % 2) (omega arith) (omega arith) ∙ omega arith

half-below : (k a : ℕ) → a < 2 ^ suc k → a / 2 < 2 ^ k
half-below k a h = let e = pow-suc 2 k in omega arith

pub xor_low_is : (k a b : ℕ) → a < 2 ^ k → b < 2 ^ k → xor_low k a b ≡ bit_xor a b
unfolding xor_low
xor_low_is zero a b h k = sym (ap₂ bit_xor (lt-one h) (lt-one k))
xor_low_is (suc n) a b h k =
    ap₂ (λ (x y : ℕ). x * 2 + y) (xor_low_is n (a / 2) (b / 2) (half-below n a h) (half-below n b k)) (sym (digit a b))
    ∙ sym (xor_step a b)

-- as many digits come out as are looked at
pub xor_low-below : (k a b : ℕ) → xor_low k a b < 2 ^ k
unfolding xor_low
xor_low-below zero a b = omega arith
xor_low-below (suc n) a b =
    let h = xor_low-below n (a / 2) (b / 2) in
    let e = pow-suc 2 n in
    omega arith
