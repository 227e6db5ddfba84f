-- Sums, from left to right: term by term, of doubles within a power of two, and of doubles from 0 up, of which each is at most the sum.
--
use Prim.Native.Nat.{ℕ, zero, suc, ◌+◌, ◌≤◌, ◌<◌, zero-le}
use mathlib.Core.Path.{◌≡◌, refl, ap, ap₂, sym, subst, ◌∙◌}
use native.Mathlib.Nat.{not-suc-le-zero, add-zero, add-suc}
use native.Mathlib.Numerals.{add-one}
use native.Mathlib.Omega.{arith}
use lib.Dec.{T}
use lib.Ieee.{Float, binary64, add, le, of_bits, fits}
use lib.Ieee.Fits.{add-fits}
use Rattle.list_laws.proofs.Below.{same-below, last_or}
use Rattle.model.specs.Real.{◌⊕◌, minus_nought, sum_to}
use Rattle.float_laws.proofs.Units.{Number}
use Rattle.float_laws.proofs.Order.{le_trans}
use Rattle.float_laws.proofs.Constants.{nought, nought-number, exp2}
use Rattle.float_laws.proofs.Arithmetic.{add-from-zero, left-below-sum, right_below_sum}
use Rattle.float_laws.proofs.FromZero.{Upto, upto-within, add-upto}
use Rattle.float_laws.proofs.Magnitude.{Within, within-number, within_wider, add-within}

pub sum_none : (f : ℕ → Float) → sum_to f 0 ≡ minus_nought
unfolding sum_to
sum_none f = refl

-- one more turn of a loop that counts up, from the sum so far
pub sum_more : (f : ℕ → Float) (n : ℕ) (s : Float) → s ≡ sum_to f n → s ⊕ f n ≡ sum_to f (n + 1)
unfolding sum_to
sum_more f n s g = sym (ap (sum_to f) (add-one n) ∙ rw (← g))

pub sum_same : (f g : ℕ → Float) (n : ℕ) → ((t : ℕ) → t < n → f t ≡ g t) → sum_to f n ≡ sum_to g n
unfolding sum_to
sum_same = same-below sum_to (λ f g. refl) (λ f g n e v. ap₂ (λ s x. s ⊕ x) e v)

pub sum_fits : (f : ℕ → Float) (n : ℕ) → T (fits binary64 (sum_to f n))
unfolding sum_to fits of_bits
sum_fits f zero = tt
sum_fits f (suc n) = add-fits binary64 (sum_to f n) (f n)

-- ---- within powers of two

nought-within : Within 0 minus_nought
unfolding of_bits fits le
nought-within = record { held = tt; low = tt; high = tt }

-- a power more for each term
sum-next : (k : ℕ) (f : ℕ → Float) (n : ℕ) → k + n ≤ 1023 → ((t : ℕ) → t < n → Within k (f t)) → Within (k + n) (sum_to f n)
unfolding sum_to
sum-next k f zero h F = rw add-zero (within_wider 0 k minus_nought zero-le nought-within)
sum-next k f (suc n) h F =
    let s = sum-next k f n (omega arith) (λ t l. F t (omega arith)) in
    rw add-suc (add-within (k + n) (sum_to f n) (f n) (omega arith) s (within_wider k (k + n) (f n) (omega arith) (F n (omega arith))))

-- of at most m terms
pub sum-within : (k : ℕ) (f : ℕ → Float) (n m : ℕ) → n ≤ m → k + m ≤ 1023 → ((t : ℕ) → t < n → Within k (f t)) → Within (k + m) (sum_to f n)
sum-within k f n m l h F = within_wider (k + n) (k + m) (sum_to f n) (omega arith) (sum-next k f n (omega arith) F)

-- ---- terms from 0 up

-- zeros add up to a zero
nought-start : Upto nought minus_nought
unfolding of_bits fits le
nought-start = record { held = tt; from = tt; to = tt }

nought-sum : add binary64 nought nought ≡ nought
unfolding add
nought-sum = refl

pub sum-nought : (f : ℕ → Float) (n : ℕ) → ((t : ℕ) → t < n → Upto nought (f t)) → Upto nought (sum_to f n)
unfolding sum_to
sum-nought f zero F = nought-start
sum-nought f (suc n) F =
    let N = nought-number binary64 in
    add-upto nought nought (sum_to f n) (f n) N N (sum-nought f n (λ t l. F t (omega arith))) (F n (omega arith)) nought nought-sum

-- terms of at most 2 ^ k
module _ (k : ℕ) (f : ℕ → Float) where
  sum_number : (n : ℕ) → k + n ≤ 1023 → ((t : ℕ) → t < n → Upto (exp2 k) (f t)) → Number binary64 (sum_to f n)
  sum_number n h F = within-number (k + n) (sum_to f n) (sum-next k f n h (λ t l. upto-within k (f t) (F t l)))

  pub sum-from-zero : (n : ℕ) → k + n ≤ 1023 → ((t : ℕ) → t < n → Upto (exp2 k) (f t)) → T (le nought (sum_to f n))
  unfolding sum_to
  sum-from-zero zero h F = nought-start.from
  sum-from-zero (suc n) h F =
      let before : (t : ℕ) → t < n → Upto (exp2 k) (f t) = λ t l. F t (omega arith) in
      let last = F n (omega arith) in
      add-from-zero binary64 (sum_to f n) (f n) (sum_number n (omega arith) before) (within-number k (f n) (upto-within k (f n) last)) (sum-from-zero n (omega arith) before) last.from

  -- each is at most their sum
  pub term_below_sum : (n : ℕ) → k + n ≤ 1023 → ((t : ℕ) → t < n → Upto (exp2 k) (f t)) → (i : ℕ) → i < n → T (le (f i) (sum_to f n))
  unfolding sum_to
  term_below_sum zero h F i l = absurd (not-suc-le-zero l)
  term_below_sum (suc n) h F i l =
      let room : k + n ≤ 1023 = omega arith in
      let before : (t : ℕ) → t < n → Upto (exp2 k) (f t) = λ t m. F t (omega arith) in
      let last = F n (omega arith) in
      let S = sum_number n room before in
      let X = within-number k (f n) (upto-within k (f n) last) in
      last_or l
      (λ e. subst (λ j. T (le (f j) (sum_to f n ⊕ f n))) (sym e) (right_below_sum binary64 (sum_to f n) (f n) S X (sum-from-zero n room before)))
      (λ m. le_trans (f i) (sum_to f n) (sum_to f n ⊕ f n) (term_below_sum n room before i m) (left-below-sum binary64 (sum_to f n) (f n) S X last.from))
