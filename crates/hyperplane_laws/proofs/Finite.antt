-- THEOREM: where every entry is finite once all steps are done, every number of the elimination was: every entry before each step, every quotient, every product and
-- every difference. So one test of the last matrix stands for "any number of the elimination is not finite".
use Prim.Native.Nat.{ℕ, zero, suc, ◌+◌, ◌≤◌, ◌<◌}
use mathlib.Core.Path.{◌≡◌, refl, ap, sym, subst, ◌∙◌}
use mathlib.Core.Bool.{Bool, true, false, cond, not, beq, true≢false}
use native.Mathlib.Nat.{add-suc}
use native.Mathlib.Omega.{arith}
use borrow.Author.Tests.{eqb-true, eqb-false}
use lib.Dec.{T, eqb}
use lib.Ieee.{Float, nan, inf, fin, binary64, add, sub, mul, div, neg, unlike}
use lib.Ieee.Scale.{finite}
use lib.ListN.{length}
use Rattle.model.specs.Real.{◌⊖◌, ◌⊗◌, ◌⊘◌}
use Rattle.list_laws.proofs.Bools.{by_bool, true_T}
use Rattle.list_laws.proofs.Below.{by_lt}
use Rattle.list_laws.proofs.Tests.{any_below-each}
use Rattle.model.specs.Hyperplane.{Matrix, entry, pivot_row, swapped, stepped, eliminated, unbounded_row, unbounded_matrix}
use Rattle.hyperplane_laws.proofs.Steps.{pivot-below}
use Rattle.hyperplane_laws.proofs.Entries.{swapped-first, swapped-second, swapped_else, stepped-upper, stepped-lower, stepped-length}

-- ---- one operation

neither : (c s : Bool) → T (finite (cond c nan (inf s))) → ⊥
neither true s t = t
neither false s t = t

neither' : (c s : Bool) → T (finite (cond c (inf s) nan)) → ⊥
neither' true s t = t
neither' false s t = t

pub add_finite : (x y : Float) → T (finite (add binary64 x y)) → T (finite x) × T (finite y)
unfolding add
add_finite nan y t = absurd t
add_finite (inf s) nan t = absurd t
add_finite (inf s) (inf u) t = absurd (neither' (beq s u) s t)
add_finite (inf s) (fin u n d) t = absurd t
add_finite (fin s m e) nan t = absurd t
add_finite (fin s m e) (inf u) t = absurd t
add_finite (fin s m e) (fin u n d) t = (tt, tt)

neg_finite : (x : Float) → T (finite (neg x)) → T (finite x)
unfolding neg
neg_finite nan t = t
neg_finite (inf s) t = t
neg_finite (fin s m e) t = t

pub sub_finite : (x y : Float) → T (finite (x ⊖ y)) → T (finite x) × T (finite y)
unfolding sub
sub_finite x y t = let r = add_finite x (neg y) t in (r.0, neg_finite y r.1)

pub mul_finite : (x y : Float) → T (finite (x ⊗ y)) → T (finite x) × T (finite y)
unfolding mul
mul_finite nan y t = absurd t
mul_finite (inf s) nan t = absurd t
mul_finite (inf s) (inf u) t = absurd t
mul_finite (inf s) (fin u n d) t = absurd (neither (eqb n 0) (unlike s u) t)
mul_finite (fin s m e) nan t = absurd t
mul_finite (fin s m e) (inf u) t = absurd (neither (eqb m 0) (unlike s u) t)
mul_finite (fin s m e) (fin u n d) t = (tt, tt)

-- a quotient is finite only if what is divided is
pub div_finite : (x y : Float) → T (finite (x ⊘ y)) → T (finite x)
unfolding div
div_finite nan y t = absurd t
div_finite (inf s) nan t = absurd t
div_finite (inf s) (inf u) t = absurd t
div_finite (inf s) (fin u n d) t = absurd t
div_finite (fin s m e) y t = tt

-- ---- matrices

-- every entry and right side is finite
abbrev pub Bounded : ℕ → Matrix → Type 0
Bounded m a = (i j : ℕ) → i < m → j < m + 1 → T (finite (entry a i j))

not-false : (b : Bool) → not b ≡ false → b ≡ true
not-false true e = refl
not-false false e = absurd (true≢false e)

-- the test says so
pub test_bounded : (m : ℕ) (a : Matrix) → unbounded_matrix m a ≡ false → Bounded m a
unfolding unbounded_matrix unbounded_row
test_bounded m a e i j h k =
    true_T (finite (entry a i j))
    (not-false (finite (entry a i j)) (any_below-each (λ c. not (finite (entry a i c))) (m + 1) (any_below-each (unbounded_row m a) m e i h) j k))

module _ (m : ℕ) (few : m ≤ 8) where
  -- a matrix is finite where it is after two of its rows changed places
  swapped_bounded : (a : Matrix) (k p : ℕ) → 72 ≤ length a → k < m → p < m → Bounded m (swapped m a k p) → Bounded m a
  swapped_bounded a k p room h g B i j u v = by_bool (eqb i k)
      (λ e. let w = eqb-true i k e in
      subst (λ x. T (finite x)) (swapped-second m few a k p j room (omega arith) v ∙ ap (λ t. entry a t j) (sym w)) (B p j g v))
      (λ e. by_bool (eqb i p)
      (λ f. let w = eqb-true i p f in
      subst (λ x. T (finite x)) (swapped-first m few a k p j room (omega arith) (omega arith) v ∙ ap (λ t. entry a t j) (sym w)) (B k j h v))
      (λ f. subst (λ x. T (finite x)) (swapped_else m few a k p i j (eqb-false i k e) (eqb-false i p f) v) (B i j u v)))

  module _ (a : Matrix) (k : ℕ) (room : 72 ≤ length a) (h : k < m) (B : Bounded m (stepped m a k)) where
    abbrev b : Matrix
    b = swapped m a k (pivot_row m a k)

    -- row i's quotient, and its product and difference at column j
    abbrev quotient : ℕ → Float
    quotient i = entry b i k ⊘ entry b k k

    lower : (i j : ℕ) → k < i → i < m → j < m + 1 → T (finite (entry b i j ⊖ (quotient i ⊗ entry b k j)))
    lower i j l u v = subst (λ x. T (finite x)) (stepped-lower m few a k room h i j l u v) (B i j u v)

    -- THEOREM: the products and the quotients of step k
    pub products_finite : (i j : ℕ) → k < i → i < m → j < m + 1 → T (finite (quotient i ⊗ entry b k j))
    products_finite i j l u v = (sub_finite (entry b i j) (quotient i ⊗ entry b k j) (lower i j l u v)).1

    pub quotients_finite : (i : ℕ) → k < i → i < m → T (finite (quotient i))
    quotients_finite i l u = (mul_finite (quotient i) (entry b k 0) (products_finite i 0 l u (omega arith))).0

    -- and the entries before it
    pub before_finite : Bounded m a
    before_finite = swapped_bounded a k (pivot_row m a k) room h (pivot-below m a k h)
        (λ i j u v. by_lt k i
        (λ l. (sub_finite (entry b i j) (quotient i ⊗ entry b k j) (lower i j l u v)).0)
        (λ l. subst (λ x. T (finite x)) (stepped-upper m few a k room h i j l v) (B i j u v)))

  eliminated-length : (a : Matrix) (k : ℕ) → 72 ≤ length a → k ≤ m → length (eliminated m a k) ≡ length a
  unfolding eliminated
  eliminated-length a zero room h = refl
  eliminated-length a (suc k) room h =
      let e = eliminated-length a k room (omega arith) in
      stepped-length m few (eliminated m a k) k (omega arith) (omega arith) ∙ e

  -- THEOREM: a matrix that is finite after k + d steps is so after k
  pub earlier_finite : (a : Matrix) → 72 ≤ length a → (d k : ℕ) → k + d ≤ m → Bounded m (eliminated m a (k + d)) → Bounded m (eliminated m a k)
  unfolding eliminated
  earlier_finite a room zero k h B = subst (λ t. Bounded m (eliminated m a t)) (let e : k + 0 ≡ k = omega arith in e) B
  earlier_finite a room (suc d) k h B =
      earlier_finite a room d k (omega arith)
      (before_finite (eliminated m a (k + d)) (k + d) (omega (arith, eliminated-length a (k + d) room (omega arith))) (omega arith)
      (subst (λ t. Bounded m (eliminated m a t)) (add-suc k d) B))
