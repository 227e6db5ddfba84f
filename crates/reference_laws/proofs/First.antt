-- The search of `auto_divisions`: the first number of divisions whose point count reaches the target.
use Prim.Native.Nat.{ℕ, suc, ◌+◌, ◌-◌, ◌≤◌, ◌<◌}
use mathlib.Core.Path.{◌≡◌, sym, subst}
use mathlib.Core.Bool.{false, cond}
use mathlib.Core.Logic.{◌⊎◌, inl, inr, ⊎_elim}
use native.Mathlib.Nat.{eq-or-lt_of_le}
use native.Mathlib.Omega.{arith}
use borrow.Author.Tests.{lt-leb, le-leb, lt-ltb, leb-true, leb-false}
use lib.Dec.{ltb}
use Rattle.model.specs.Lists.{first_below}
use Rattle.model.specs.Reference.{point_count, auto_divisions, reaches}
use Rattle.list_laws.proofs.First.{first_below_none, first_below_le, first_below_no, first_below-at, first_below-passes, first_below-before}

-- no number from 1 to h - 1 reaches the target
abbrev pub Missed : ℕ → ℕ → ℕ → Type 0
Missed m target h = first_below (reaches m target) (h - 1) ≡ h - 1

module _ (m target : ℕ) where
  pub missed_none : Missed m target 1
  missed_none = first_below_none (reaches m target)

  pub missed_more : (h p : ℕ) → 1 ≤ h → Missed m target h → p ≡ point_count m h → p < target → Missed m target (h + 1)
  missed_more h p l e q g =
      let a : suc (h - 1) ≡ h = omega arith in
      let b : h + 1 - 1 ≡ h - 1 + 1 = omega arith in
      rw b (first_below_no (reaches m target) (h - 1) e (rw (a, ← q) (lt-leb target p g)))

  pub auto_here : (h p : ℕ) → 1 ≤ h → h < 200 → Missed m target h → p ≡ point_count m h → target ≤ p → h ≡ auto_divisions m target
  unfolding auto_divisions
  auto_here h p l u e q g =
      let a : suc (h - 1) ≡ h = omega arith in
      let r = first_below-at (reaches m target) 199 (h - 1) (omega arith) (rw (a, ← q) (le-leb target p g))
      (λ t v. first_below-before (reaches m target) (h - 1) t (omega (arith, e))) in
      rw (r, lt-ltb (h - 1) 199 (omega arith)) (sym a)

  pub auto_missed : (h : ℕ) → h ≡ 200 → Missed m target h → 12 ≡ auto_divisions m target
  unfolding auto_divisions
  auto_missed h u e = let r : first_below (reaches m target) 199 ≡ 199 = rw u at e in rw r

-- ---- THEOREM: automatic divisions are the first of 1 to 199 whose point count reaches the target, and 12 where none does

pub record First (m target h : ℕ) : Type 0 where
  pub least : 1 ≤ h
  pub most : h ≤ 199
  pub reached : target ≤ point_count m h
  pub before : (k : ℕ) → 1 ≤ k → k < h → point_count m k < target

pub record Never (m target h : ℕ) : Type 0 where
  pub missed : (k : ℕ) → 1 ≤ k → k ≤ 199 → point_count m k < target
  pub instead : h ≡ 12

module _ (m target : ℕ) where
  misses : (n : ℕ) → ((k : ℕ) → k < n → reaches m target k ≡ false) → (k : ℕ) → 1 ≤ k → k ≤ n → point_count m k < target
  misses n each k a b =
      let e : suc (k - 1) ≡ k = omega arith in
      subst (λ (x : ℕ). point_count m x < target) e (leb-false target (point_count m (suc (k - 1))) (each (k - 1) (omega arith)))

  pub auto_first : First m target (auto_divisions m target) ⊎ Never m target (auto_divisions m target)
  unfolding auto_divisions
  auto_first = ⊎_elim (λ e. inr (none e)) (λ l. inl (found l)) (eq-or-lt_of_le (first_below_le (reaches m target) 199))
    where
      i : ℕ
      i = first_below (reaches m target) 199

      found : i < 199 → First m target (cond (ltb i 199) (suc i) 12)
      found l = rw (lt-ltb i 199 l) (record {
        least = omega arith;
        most = omega arith;
        reached = leb-true target (point_count m (suc i)) (first_below-passes (reaches m target) 199 l);
        before = λ k a b. misses i (first_below-before (reaches m target) 199) k a (omega arith);
      })

      none : i ≡ 199 → Never m target (cond (ltb i 199) (suc i) 12)
      none e = record { missed = misses 199 (λ k l. first_below-before (reaches m target) 199 k (omega (arith, e))); instead = rw e }
