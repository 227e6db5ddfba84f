-- Laws of `count_below` and `sum_below`.
use Prim.Native.Nat.{ℕ, zero, suc, ◌+◌, ◌≤◌, ◌<◌}
use mathlib.Core.Path.{◌≡◌, refl, ap, sym, ◌∙◌}
use mathlib.Core.Bool.{Bool, true, false, not, ◌&&◌, or-true, or-false}
use native.Mathlib.Nat.{not-suc-le-zero, add-zero}
use native.Mathlib.Numerals.{add-one}
use native.Mathlib.Omega.{arith}
use borrow.Author.Tests.{eq-eqb, ne_eqb, eqb-true, eqb-false, not-true}
use lib.Dec.{eqb}
use Rattle.model.specs.Lists.{one, any_below, count_below, sum_below}
use Rattle.list_laws.proofs.Bools.{by_bool, no_fail, past, and_no, one_le}
use Rattle.list_laws.proofs.Below.{same-below, later, last_or}
use Rattle.list_laws.proofs.Tests.{any_below-some, any_below-each, all_below_any, all_below-each}

-- ---- sum_below

pub sum_below-same : (f g : ℕ → ℕ) (n : ℕ) → ((t : ℕ) → t < n → f t ≡ g t) → sum_below f n ≡ sum_below g n
unfolding sum_below
sum_below-same = same-below sum_below (λ f g. refl) (λ f g n e v. omega arith)

pub sum_below-add : (f g : ℕ → ℕ) (n : ℕ) → sum_below (λ t. f t + g t) n ≡ sum_below f n + sum_below g n
unfolding sum_below
sum_below-add f g zero = refl
sum_below-add f g (suc n) = omega (arith, sum_below-add f g n)

pub sum_below_mono : (f g : ℕ → ℕ) (n : ℕ) → ((t : ℕ) → t < n → f t ≤ g t) → sum_below f n ≤ sum_below g n
unfolding sum_below
sum_below_mono f g zero h = omega arith
sum_below_mono f g (suc n) h = omega (arith, sum_below_mono f g n (λ t l. h t (omega arith)), h n (omega arith))

pub sum_below-zero : (n : ℕ) → sum_below (λ t. 0) n ≡ 0
unfolding sum_below
sum_below-zero zero = refl
sum_below-zero (suc n) = omega (arith, sum_below-zero n)

-- of values that are 0 but at x, the sum is that at x
pub sum_below_point : (f : ℕ → ℕ) (n x : ℕ) → x < n → ((t : ℕ) → t < n → (t ≡ x → ⊥) → f t ≡ 0) → sum_below f n ≡ f x
unfolding sum_below
sum_below_point f zero x l h = absurd (not-suc-le-zero l)
sum_below_point f (suc n) x l h =
    last_or l
    (λ e. let z : sum_below f n ≡ 0 = sum_below-same f (λ t. 0) n (λ t u. h t (omega arith) (λ v. omega arith)) ∙ sum_below-zero n in
    let p : f x ≡ f n = ap f e in omega arith)
    (λ m. let z : f n ≡ 0 = h n (omega arith) (λ v. omega arith) in
    omega (arith, sum_below_point f n x m (λ t u. h t (omega arith))))

-- ---- count_below

pub count_below_none : (f : ℕ → Bool) → count_below f 0 ≡ 0
unfolding count_below sum_below
count_below_none f = refl

pub count_below-more : (f : ℕ → Bool) (n : ℕ) → count_below f (n + 1) ≡ count_below f n + one (f n)
unfolding count_below sum_below
count_below-more f n = ap (count_below f) (add-one n)

pub count_below_yes : (f : ℕ → Bool) (n : ℕ) → f n ≡ true → count_below f (n + 1) ≡ count_below f n + 1
count_below_yes f n e = count_below-more f n ∙ ap (λ b. count_below f n + one b) e

pub count_below_no : (f : ℕ → Bool) (n : ℕ) → f n ≡ false → count_below f (n + 1) ≡ count_below f n
count_below_no f n e = count_below-more f n ∙ ap (λ b. count_below f n + one b) e ∙ add-zero (count_below f n)

pub count_below_le : (f : ℕ → Bool) (n : ℕ) → count_below f n ≤ n
unfolding count_below sum_below
count_below_le f zero = omega arith
count_below_le f (suc n) = omega (arith, count_below_le f n, one_le (f n))

pub count_below-same : (f g : ℕ → Bool) (n : ℕ) → ((t : ℕ) → t < n → f t ≡ g t) → count_below f n ≡ count_below g n
unfolding count_below
count_below-same f g n h = sum_below-same _ _ n (λ t l. ap one (h t l))

-- a count is a sum, so what holds of sums holds of counts
pub count_below-sum : (f : ℕ → Bool) (n : ℕ) → count_below f n ≡ sum_below (λ t. one (f t)) n
unfolding count_below
count_below-sum f n = refl

-- the count rises with the bound
pub count_below-up : (f : ℕ → Bool) (k n : ℕ) → k ≤ n → count_below f k ≤ count_below f n
unfolding count_below sum_below
count_below-up f k n h = later (λ t. count_below f k ≤ count_below f t) (λ t u. omega arith) k n h (omega arith)

-- some number passes just where the count of those that do is not zero
pub any_below-count : (f : ℕ → Bool) (n : ℕ) → any_below f n ≡ not (eqb (count_below f n) 0)
unfolding any_below count_below sum_below
any_below-count f zero = refl
any_below-count f (suc n) = by_bool (f n)
    (λ e. rw (e, or-true, ne_eqb (count_below f n + 1) 0 (λ z. omega arith)))
    (λ e. rw (e, or-false, any_below-count f n, add-zero))

-- where each number that passes f passes just one of g and h, and no other passes either, the counts add up
pub count_below_parts : (f g h : ℕ → Bool) (n : ℕ) → ((t : ℕ) → t < n → one (f t) ≡ one (g t) + one (h t)) → count_below f n ≡ count_below g n + count_below h n
unfolding count_below
count_below_parts f g h n e = sum_below-same _ _ n e ∙ sum_below-add (λ t. one (g t)) (λ t. one (h t)) n

-- those that pass f are those that pass g too, and those that do not
pub count_below-split : (f g : ℕ → Bool) (n : ℕ) → count_below f n ≡ count_below (λ t. f t && g t) n + count_below (λ t. f t && not (g t)) n
count_below-split f g n = count_below_parts f (λ t. f t && g t) (λ t. f t && not (g t)) n (λ t u. halves (f t) (g t))
  where
    halves : (a b : Bool) → one a ≡ one (a && b) + one (a && not b)
    halves true true = refl
    halves true false = refl
    halves false b = refl

-- one number that passes makes the count positive
pub count_below-at : (f : ℕ → Bool) (n k : ℕ) → k < n → f k ≡ true → 0 < count_below f n
count_below-at f n k h e = omega (arith, count_below_yes f k e, count_below-up f (k + 1) n (omega arith))

-- if what passes f passes g, those that pass f are those that pass both
inside : (f g : ℕ → Bool) (n : ℕ) → ((t : ℕ) → t < n → f t ≡ true → g t ≡ true) → count_below f n ≡ count_below (λ t. g t && f t) n
inside f g n h = count_below-same f _ n (λ t l. by_bool (f t) (λ e. e ∙ sym (past (h t l e) e)) (λ e. e ∙ sym (and_no (g t) (f t) e)))

-- so f's count is at most g's, and it is less where some number passes g alone
pub count_below_mono : (f g : ℕ → Bool) (n : ℕ) → ((t : ℕ) → t < n → f t ≡ true → g t ≡ true) → count_below f n ≤ count_below g n
count_below_mono f g n h = omega (arith, count_below-split g f n, inside f g n h)

pub count_below-less : (f g : ℕ → Bool) (n k : ℕ) → ((t : ℕ) → t < n → f t ≡ true → g t ≡ true) → k < n → f k ≡ false → g k ≡ true
    → count_below f n < count_below g n
count_below-less f g n k h l a b =
    let more = count_below-at (λ t. g t && not (f t)) n k l (past b (ap not a)) in
    omega (arith, count_below-split g f n, inside f g n h)

-- where one number alone passes, the count is 1
pub count_below-one : (f : ℕ → Bool) (n i : ℕ) → i < n → f i ≡ true → ((t : ℕ) → (t ≡ i → ⊥) → f t ≡ false) → count_below f n ≡ 1
unfolding count_below
count_below-one f n i h e s = sum_below_point _ n i h (λ t u v. ap one (s t v)) ∙ ap one e

-- so a test that no longer passes at i alone passes once less
pub count_below-drop : (f g : ℕ → Bool) (n i : ℕ) → i < n → f i ≡ true → g i ≡ false → ((t : ℕ) → (t ≡ i → ⊥) → g t ≡ f t)
    → count_below f n ≡ count_below g n + 1
count_below-drop f g n i h a b s =
    count_below_parts f g (λ t. eqb t i) n (λ t u. split t)
    ∙ ap (λ k. count_below g n + k) (count_below-one (λ t. eqb t i) n i h (eq-eqb i i refl) (λ t v. ne_eqb t i v))
  where
    split : (t : ℕ) → one (f t) ≡ one (g t) + one (eqb t i)
    split t = by_bool (eqb t i)
        (λ e. let v : t ≡ i = eqb-true t i e in omega (arith, ap (λ k. one (f k)) v, ap one a, ap (λ k. one (g k)) v, ap one b, ap one e))
        (λ e. omega (arith, ap one (s t (eqb-false t i e)), ap one e))

-- if all pass, the count is n; and conversely
pub count_below-all : (f : ℕ → Bool) (n : ℕ) → ((t : ℕ) → t < n → f t ≡ true) → count_below f n ≡ n
unfolding count_below sum_below
count_below-all f zero h = refl
count_below-all f (suc n) h = let e : f n ≡ true = h n (omega arith) in rw (e, count_below-all f n (λ t u. h t (omega arith))) (omega arith)

pub all-count_below : (f : ℕ → Bool) (n : ℕ) → n ≤ count_below f n → (t : ℕ) → t < n → f t ≡ true
all-count_below f n h t l = no_fail (f t) (λ e. omega (arith, count_below-less f (λ k. true) n t (λ k u v. refl) l e refl, count_below_le (λ k. true) n))

-- if the count is not zero, some number passes; if it is, none does
pub some-count_below : (f : ℕ → Bool) (n : ℕ) → 0 < count_below f n → (t : ℕ) × (t < n) × (f t ≡ true)
some-count_below f n h = any_below-some f n (any_below-count f n ∙ ap not (ne_eqb (count_below f n) 0 (λ e. omega arith)))

pub none_count_below : (f : ℕ → Bool) (n : ℕ) → count_below f n ≡ 0 → (t : ℕ) → t < n → f t ≡ false
none_count_below f n h = any_below-each f n (any_below-count f n ∙ ap not (eq-eqb (count_below f n) 0 h))

-- if the count is less than n, some number does not pass
pub left-count_below : (f : ℕ → Bool) (n : ℕ) → count_below f n < n → (t : ℕ) × (t < n) × (f t ≡ false)
left-count_below f n h = by_bool (any_below (λ t. not (f t)) n)
    (λ e. let r = any_below-some (λ t. not (f t)) n e in (r.0, r.1, not-true (f r.0) r.2))
    (λ e. absurd (omega (arith, count_below-all f n (all_below-each f n (all_below_any f n ∙ ap not e)))))
