-- THE STATE SO MANY WORDS ON: words on and on add up, 2^i words are the map doubled i times, and 2^64 words are none.
use Prim.Native.Nat.{ℕ, zero, suc, ◌+◌, ◌*◌, ◌/◌, ◌%◌, ◌^◌, ◌<◌}
use mathlib.Core.Path.{◌≡◌, refl, sym, ap, ◌∙◌}
use native.Mathlib.Nat.{pow-suc, add-suc, suc-mul, div-add-mod'}
use native.Mathlib.Omega.{arith}
use Rattle.model.specs.Draw.{step}
use Rattle.model.specs.Load.{ahead}
use Rattle.jump_laws.specs.Steps.{applied, mul_at, add_at}
use Rattle.jump_laws.specs.WordsOn.{WordsOn}
use Rattle.jump_laws.proofs.Maps.{map_more, map-full}

pub ahead_none : (s : ℕ) → ahead 0 s ≡ s
unfolding ahead
ahead_none s = refl

pub ahead-next : (k s : ℕ) → ahead (suc k) s ≡ step (ahead k s)
unfolding ahead
ahead-next k s = refl

pub ahead-one : (s : ℕ) → ahead 1 s ≡ step s
unfolding ahead
ahead-one s = refl

-- j words on, then k
pub ahead-sum : (j k s : ℕ) → ahead k (ahead j s) ≡ ahead (j + k) s
ahead-sum j zero s = ahead_none (ahead j s) ∙ ap (λ n. ahead n s) (omega arith)
ahead-sum j (suc k) s = ahead-next k (ahead j s) ∙ ap step (ahead-sum j k s) ∙ sym (ap (λ n. ahead n s) (add-suc j k) ∙ ahead-next (j + k) s)

-- 2^i words on
ahead-first : (s : ℕ) → applied (mul_at 0) (add_at 0) s ≡ ahead (2 ^ 0) s
unfolding applied mul_at add_at step ahead
ahead-first s = refl

pub ahead-power : (i s : ℕ) → applied (mul_at i) (add_at i) s ≡ ahead (2 ^ i) s
ahead-power zero s = ahead-first s
ahead-power (suc i) s =
    let e : 2 ^ i + 2 ^ i ≡ 2 ^ suc i = omega (arith, pow-suc 2 i) in
    sym (map_more i s) ∙ ahead-power i (applied (mul_at i) (add_at i) s) ∙ ap (ahead (2 ^ i)) (ahead-power i s) ∙ ahead-sum (2 ^ i) (2 ^ i) s ∙ ap (λ n. ahead n s) e

-- 2^64 words on, and as often
module _ (s : ℕ) (h : s < 2 ^ 64) where
  ahead-full : ahead (2 ^ 64) s ≡ s
  ahead-full = sym (ahead-power 64 s) ∙ map-full s h

  ahead_rounds : (q : ℕ) → ahead (q * 2 ^ 64) s ≡ s
  ahead_rounds zero = ahead_none s
  ahead_rounds (suc q) =
      ap (λ n. ahead n s) (suc-mul q (2 ^ 64)) ∙ sym (ahead-sum (q * 2 ^ 64) (2 ^ 64) s) ∙ ap (ahead (2 ^ 64)) (ahead_rounds q) ∙ ahead-full

  pub ahead_mod : (n : ℕ) → ahead n s ≡ ahead (n % 2 ^ 64) s
  ahead_mod n =
      ap (λ m. ahead m s) (sym (div-add-mod' n (2 ^ 64))) ∙ sym (ahead-sum (n / 2 ^ 64 * 2 ^ 64) (n % 2 ^ 64) s) ∙ ap (ahead (n % 2 ^ 64)) (ahead_rounds (n / 2 ^ 64))

-- M-106's theorems
pub words-on : WordsOn
words-on = record {
  sum = λ j k s h. ahead-sum j k s ∙ ahead_mod s h (j + k);
  one = ahead-one;
}
