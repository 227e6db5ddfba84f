-- Whole numbers as words, and the machine's arithmetic that codes them.
use mathlib.Core.Path.{◌≡◌, refl, sym, ap, ◌∙◌}
use mathlib.Core.Bool.{Bool, true, false, cond, true≢false}
use Prim.Native.Nat.{ℕ, zero, suc, ◌+◌, ◌-◌, ◌*◌, ◌/◌, ◌%◌, ◌^◌, ◌<◌}
use native.Mathlib.Nat.{zero-add}
use native.Mathlib.Omega.{arith}
use borrow.Author.Tests.{eq-eqb, ne_eqb}
use lib.Dec.{T, leb-zero}
use lib.IntN.{ℤ, pos, negsuc, nat_abs, ◌-ℤ◌}
use lib.Signed.{non_neg, le_z}
use mir.Syntax.{w64}
use mir.Val.{Fits, SFits}
use Rattle.model.specs.Setting.{word_of_int, int_of_word}
use Rattle.list_laws.proofs.Below.{cond_le}

-- ---- there and back
pub int_of_word_even : (w : ℕ) → w % 2 ≡ 0 → int_of_word w ≡ pos (w / 2)
unfolding int_of_word
int_of_word_even w h = ap (λ (b : Bool). cond b (pos (w / 2)) (negsuc (w / 2))) (eq-eqb (w % 2) 0 h)

pub int_of_word_odd : (w : ℕ) → (w % 2 ≡ 0 → ⊥) → int_of_word w ≡ negsuc (w / 2)
unfolding int_of_word
int_of_word_odd w h = ap (λ (b : Bool). cond b (pos (w / 2)) (negsuc (w / 2))) (ne_eqb (w % 2) 0 h)

pub int_of_word-of : (z : ℤ) → int_of_word (word_of_int z) ≡ z
int_of_word-of (pos n) = int_of_word_even (2 * n) (omega arith) ∙ ap pos (omega arith)
int_of_word-of (negsuc n) = int_of_word_odd (2 * n + 1) (odd n) ∙ ap negsuc (omega arith)
  where
    odd : (n : ℕ) → (2 * n + 1) % 2 ≡ 0 → ⊥
    odd n e = omega arith

-- ---- -1 - z, which turns the numbers from zero up into those below, and back
pub other : (k : ℕ) → negsuc 0 -ℤ pos k ≡ negsuc k
other zero = refl
other (suc k) = ap (λ (x : ℕ). negsuc (suc x)) (zero-add k)

pub other-back : (k : ℕ) → negsuc 0 -ℤ negsuc k ≡ pos k
other-back k = cond_le (suc k) 1 (negsuc (1 - suc (suc k))) (pos (suc k - 1)) (omega arith) ∙ ap pos (omega arith)

-- a number from zero up
pub record Up (n : ℤ) : Type 0 where
  pub from : T (non_neg n)
  pub fits : Fits w64 (nat_abs n)
  pub twice : Fits w64 (2 * nat_abs n)
  pub is : 2 * nat_abs n ≡ word_of_int n

pub up : (n : ℤ) → SFits w64 n → le_z (pos 0) n ≡ true → Up n
up (pos n) f h = let g : n < 2 ^ 63 = f.sfits in record { from = tt; fits = record { fits = omega arith }; twice = record { fits = omega arith }; is = refl }
up (negsuc n) f h = absurd (true≢false (sym h))

-- a number below
pub record Down (n : ℤ) : Type 0 where
  pub some : ℕ
  pub is : negsuc 0 -ℤ n ≡ pos some
  pub small : some < 2 ^ 63
  pub word : 2 * some + 1 ≡ word_of_int n

pub down : (n : ℤ) → SFits w64 n → le_z (pos 0) n ≡ false → Down n
down (pos n) f h = absurd (true≢false (sym (leb-zero n) ∙ h))
down (negsuc n) f h = record { some = n; is = other-back n; small = f.sfits; word = refl }
