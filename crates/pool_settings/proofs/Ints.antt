-- The words of Ints: n is 2n from zero up and -2n - 1 below, so those within 2^53 in magnitude are those up to 2^54.
use Prim.Native.Nat.{ℕ, ◌/◌, ◌%◌, ◌^◌, ◌≤◌, ◌<◌}
use mathlib.Core.Path.{◌≡◌, ap, ◌∙◌}
use mathlib.Core.Bool.{Bool, true, false, ◌&&◌, and-true}
use native.Mathlib.Omega.{arith}
use borrow.Author.Tests.{le-leb, lt-leb, leb-true, eq-eqb, ne_eqb, eqb-true, eqb-false}
use lib.Dec.{eqb, leb}
use lib.IntN.{ℤ}
use lib.Signed.{le_z}
use Rattle.model.specs.Setting.{int_of_word, min_whole, max_whole}
use Rattle.model.specs.PoolFile.{good_setting}
use Rattle.list_laws.proofs.Bools.{by_bool, both_ways}
use Rattle.real_laws.proofs.Ints.{int_of_word_even, int_of_word_odd}
use Rattle.pool_settings.specs.Passing.{setting_of, max_int_word}

-- two bounds that hold of the same
leb-same : (a b c d : ℕ) → (a ≤ b → c ≤ d) → (c ≤ d → a ≤ b) → leb a b ≡ leb c d
leb-same a b c d f g = both_ways (leb a b) (leb c d) (λ e. le-leb c d (f (leb-true a b e))) (λ e. le-leb a b (g (leb-true c d e)))

abbrev within : ℤ → Bool
within n = le_z min_whole n && le_z n max_whole

pub int_within : (w : ℕ) → within (int_of_word w) ≡ leb w max_int_word
int_within w = by_bool (eqb (w % 2) 0)
    (λ e. let h : w % 2 ≡ 0 = eqb-true (w % 2) 0 e in
    ap within (int_of_word_even w h) ∙ leb-same (w / 2) (2 ^ 53) w max_int_word (λ l. omega arith) (λ l. omega arith))
    (λ e. let h : w % 2 ≡ 0 → ⊥ = eqb-false (w % 2) 0 e in
    ap within (int_of_word_odd w h) ∙ and-true (leb (w / 2) 9007199254740991) ∙ leb-same (w / 2) 9007199254740991 w max_int_word (λ l. odd w h l) (λ l. omega arith))
  where
    odd : (w : ℕ) → (w % 2 ≡ 0 → ⊥) → w / 2 ≤ 9007199254740991 → w ≤ max_int_word
    odd w h l = omega arith

-- ---- a setting's form, by its kind

module _ (param kind value : ℕ) where
  pub kind-past : 2 < kind → good_setting (setting_of param kind value) ≡ false
  unfolding good_setting
  kind-past h = rw (lt-leb kind 2 h)

  pub an_int : kind ≡ 1 → good_setting (setting_of param kind value) ≡ leb value max_int_word
  unfolding good_setting
  an_int e = rw (le-leb kind 2 (omega arith), eq-eqb kind 1 e) (int_within value)

  pub no_int : kind ≤ 2 → (kind ≡ 1 → ⊥) → good_setting (setting_of param kind value) ≡ true
  unfolding good_setting
  no_int h n = rw (le-leb kind 2 h, ne_eqb kind 1 n)
