-- The groups of a number, put one after the other.
use Prim.Native.Nat.{ℕ, zero, suc, ◌+◌, ◌*◌, ◌/◌, ◌%◌, ◌^◌, ◌≤◌, ◌<◌}
use mathlib.Core.Path.{◌≡◌, refl, ap, sym, subst, ◌∙◌}
use mathlib.Core.List.{List, [], ◌∷◌, ◌++◌, append_assoc}
use native.Mathlib.Omega.{arith}
use borrow.Author.Tests.{lt-ltb, le-ltb}
use lib.Pow.{shr_lt}
use Rattle.model.specs.PoolFile.{groups_of, written}
use Rattle.pool_form.specs.Form.{Adds}
use Rattle.pool_form.proofs.Pieces.{adds_none, adds_then, adds_as}

-- a number of one group, and of more
groups_one : (g n : ℕ) → n < 128 → groups_of (suc g) n ≡ n ∷ []
unfolding groups_of
groups_one g n h = rw (lt-ltb n 128 h)

groups_more : (g n : ℕ) → 128 ≤ n → groups_of (suc g) n ≡ (n % 128 + 128) ∷ groups_of g (n / 128)
unfolding groups_of
groups_more g n h = rw (le-ltb n 128 h)

-- some groups of n are put, and what is left of n has so many more groups at most, behind one
pub record Going (n : ℕ) (before : List ℕ) (at left : ℕ) (after : List ℕ) (p : ℕ) : Type 0 where
  pub done : List ℕ
  pub groups : ℕ
  pub small : left < 2 ^ (groups * 7 + 7)
  pub whole : done ++ groups_of (suc groups) left ≡ written n
  pub puts : Adds done before at after p

pub going_start : (n : ℕ) (out : List ℕ) (at : ℕ) → n < 2 ^ 64 → Going n out at n out at
going_start n out at h = record { done = []; groups = 9; small = omega arith; whole = refl; puts = adds_none out at }

-- one group more, which is not the last
pub going_more : (n : ℕ) (o₀ : List ℕ) (at left : ℕ) (o₁ : List ℕ) (p : ℕ) (o₂ : List ℕ) (r : ℕ) → Going n o₀ at left o₁ p → 128 ≤ left
    → Adds ((left % 128 + 128) ∷ []) o₁ p o₂ r → Going n o₀ at (left / 128) o₂ r
going_more n o₀ at left o₁ p o₂ r g h b = go g.groups g.small g.whole
  where
    go : (k : ℕ) → left < 2 ^ (k * 7 + 7) → g.done ++ groups_of (suc k) left ≡ written n → Going n o₀ at (left / 128) o₂ r
    go zero s w = absurd (omega arith)
    go (suc k) s w =
        let e : suc k * 7 + 7 ≡ (k * 7 + 7) + 7 = omega arith in
        record {
          done = g.done ++ ((left % 128 + 128) ∷ []);
          groups = k;
          small = shr_lt (k * 7 + 7) 7 (subst (λ x. left < 2 ^ x) e s);
          whole = append_assoc g.done _ _ ∙ ap (λ l. g.done ++ l) (sym (groups_more (suc k) left h)) ∙ w;
          puts = adds_then o₀ o₁ o₂ at p r g.done _ g.puts b;
        }

-- the last group
pub going_last : (n : ℕ) (o₀ : List ℕ) (at left : ℕ) (o₁ : List ℕ) (p : ℕ) (o₂ : List ℕ) (r : ℕ) → Going n o₀ at left o₁ p → left < 128
    → Adds (left ∷ []) o₁ p o₂ r → Adds (written n) o₀ at o₂ r
going_last n o₀ at left o₁ p o₂ r g h b =
    adds_as o₀ o₂ at r _ _ (ap (λ l. g.done ++ l) (sym (groups_one g.groups left h)) ∙ g.whole) (adds_then o₀ o₁ o₂ at p r g.done _ g.puts b)
