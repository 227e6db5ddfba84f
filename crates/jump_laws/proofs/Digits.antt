-- Digit by digit of k: none passed, one more, and all 64.
use Prim.Native.Nat.{ℕ, zero, suc, ◌+◌, ◌*◌, ◌/◌, ◌%◌, ◌^◌, ◌<◌}
use mathlib.Core.Path.{◌≡◌, refl, sym, ap, ◌∙◌}
use native.Mathlib.Nat.{add_comm, mod-eq_of_lt}
use native.Mathlib.Numerals.{add-one}
use native.Mathlib.Omega.{arith}
use borrow.Author.Tests.{eq-eqb, ne_eqb}
use lib.Pow.{mod-pow-add, shr-shr}
use Rattle.model.specs.Load.{ahead}
use Rattle.jump_laws.specs.Steps.{applied, mul_at, add_at, moved_by, Passed}
use Rattle.jump_laws.proofs.Ahead.{ahead_none, ahead-sum, ahead-power}

-- a digit of 1 and a digit of 0
pub moved-one : (a c s d : ℕ) → d ≡ 1 → moved_by a c s d ≡ applied a c s
unfolding moved_by
moved-one a c s d e = rw (eq-eqb d 1 e)

pub moved_none : (a c s d : ℕ) → (d ≡ 1 → ⊥) → moved_by a c s d ≡ s
unfolding moved_by
moved_none a c s d e = rw (ne_eqb d 1 e)

-- either way as many words on as the digit counts
moved-ahead : (i s d : ℕ) → d < 2 → moved_by (mul_at i) (add_at i) s d ≡ ahead (d * 2 ^ i) s
moved-ahead i s zero h = moved_none _ _ s 0 (λ e. omega arith) ∙ sym (ap (λ n. ahead n s) (omega arith) ∙ ahead_none s)
moved-ahead i s (suc zero) h = moved-one _ _ s 1 refl ∙ ahead-power i s ∙ ap (λ n. ahead n s) (omega arith)
moved-ahead i s (suc (suc d)) h = absurd (omega arith)

module _ (k start : ℕ) where
  pub none_passed : Passed k start 0 k (mul_at 0) (add_at 0) start
  none_passed = record { mul = refl; add = refl; rest = omega arith; state = sym (ap (λ n. ahead n start) (omega arith) ∙ ahead_none start) }

  module _ (i left a c s : ℕ) (p : Passed k start i left a c s) where
    one_more : moved_by a c s (left % 2) ≡ ahead (k % 2 ^ suc i) start
    one_more =
        let d = k / 2 ^ i % 2 in
        let e : k % 2 ^ suc i ≡ k % 2 ^ i + d * 2 ^ i =
        ap (λ n. k % 2 ^ n) (omega arith) ∙ mod-pow-add k 1 i ∙ add_comm (d * 2 ^ i) (k % 2 ^ i) in
        rw (p.mul, p.add, p.rest, p.state) (moved-ahead i (ahead (k % 2 ^ i) start) d (omega arith)) ∙ ahead-sum (k % 2 ^ i) (d * 2 ^ i) start
        ∙ ap (λ n. ahead n start) (sym e)

    -- by what a turn of the loop leaves
    pub digit_passed : (a' c' s' : ℕ) → a' ≡ (a * a) % 2 ^ 64 → c' ≡ applied a c c → s' ≡ moved_by a c s (left % 2) → Passed k start (i + 1) (left / 2) a' c' s'
    unfolding mul_at add_at
    digit_passed a' c' s' e f g = rw add-one (record {
      mul = e ∙ rw p.mul refl;
      add = f ∙ rw (p.mul, p.add) refl;
      rest = ap (λ n. n / 2) p.rest ∙ shr-shr k i 1 ∙ ap (λ n. k / 2 ^ n) (add-one i);
      state = g ∙ one_more;
    })

  pub all_passed : (left a c s : ℕ) → k < 2 ^ 64 → Passed k start 64 left a c s → s ≡ ahead k start
  all_passed left a c s h p = p.state ∙ ap (λ n. ahead n start) (mod-eq_of_lt h)
