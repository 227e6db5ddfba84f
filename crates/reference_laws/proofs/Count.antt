-- How many lines there are: `binomial` is Pascal's triangle, and `point_count` is the length of the list of lines.
use Prim.Native.Nat.{ℕ, zero, suc, ◌+◌, ◌-◌, ◌*◌, ◌/◌, ◌^◌, ◌≤◌, ◌<◌}
use mathlib.Core.Path.{◌≡◌, refl, sym, ◌∙◌}
use mathlib.Core.List.{List, ◌∷◌, map}
use native.Mathlib.Nat.{suc-mul, mul-add, mul-sub, mul_comm, sub-zero, zero-add, suc-sub-suc, div-eq_of_eq-mul_right, div-le_self, le_trans, lt_of_le_of_lt, mul-le-mul, mul-le-mul_left, sub-le, pow-suc, pow-le-pow_right}
use native.Mathlib.Numerals.{add-one}
use native.Mathlib.Omega.{arith}
use lib.ListN.{length, length-append, length-map}
use Rattle.model.specs.Lists.{join_below}
use Rattle.model.specs.Reference.{tuples, lattice, binomial, point_count}

-- ---- Pascal's triangle: k out of n

unfoldable pub pascal : ℕ → ℕ → ℕ
pascal zero n = 1
pascal (suc k) zero = 0
pascal (suc k) (suc n) = pascal k n + pascal (suc k) n

pascal-more : (k n : ℕ) → pascal (suc k) (suc n) ≡ pascal k n + pascal (suc k) n
unfolding pascal
pascal-more k n = refl

-- more than all of n: none
pub pascal-over : (k n : ℕ) → n < k → pascal k n ≡ 0
unfolding pascal
pascal-over zero n h = absurd (omega arith)
pascal-over (suc k) zero h = refl
pascal-over (suc k) (suc n) h = let a = pascal-over k n (omega arith) in let b = pascal-over (suc k) n (omega arith) in omega arith

row_step : (j n a b c : ℕ) → suc j * b + j * a ≡ n * a → suc (suc j) * c + suc j * b ≡ n * b → suc (suc j) * (b + c) + suc j * (a + b) ≡ suc n * (a + b)
row_step j n a b c p q =
    let p₁ = simp suc-mul at p in
    let q₁ = simp suc-mul at q in
    simp (suc-mul, mul-add) (omega arith)

-- along a row: (k + 1) C(n, k + 1) + k C(n, k) = n C(n, k)
pub pascal-row : (k n : ℕ) → suc k * pascal (suc k) n + k * pascal k n ≡ n * pascal k n
unfolding pascal
pascal-row zero zero = refl
pascal-row (suc k) zero = omega arith
pascal-row zero (suc n) = let i = pascal-row zero n in omega arith
pascal-row (suc j) (suc n) = row_step j n (pascal j n) (pascal (suc j) n) (pascal (suc (suc j)) n) (pascal-row j n) (pascal-row (suc j) n)

next : (k n a b : ℕ) → suc k * b + k * a ≡ n * a → a * (n - k) ≡ suc k * b
next k n a b p = rw (mul-sub, mul_comm a n, mul_comm a k) (omega arith)

-- the product form of document 01's count is Pascal's: each division is exact
pub binomial-pascal : (n k : ℕ) → binomial n k ≡ pascal k n
unfolding binomial pascal
binomial-pascal n zero = refl
binomial-pascal n (suc k) =
    rw (binomial-pascal n k) (div-eq_of_eq-mul_right (omega arith) (next k n (pascal k n) (pascal (suc k) n) (pascal-row k n)))

-- ---- the loop that multiplies it out

pub binomial-start : (n : ℕ) → binomial n 0 ≡ 1
unfolding binomial
binomial-start n = refl

pub binomial-next : (n i : ℕ) → binomial n (i + 1) ≡ binomial n i * (n - i) / (i + 1)
unfolding binomial
binomial-next n i = rw add-one

pub binomial_none : (n k : ℕ) → n < k → binomial n k ≡ 0
binomial_none n k h = binomial-pascal n k ∙ pascal-over k n h

binomial-bound : (n k : ℕ) → n ≤ 255 → binomial n k ≤ 256 ^ k
unfolding binomial
binomial-bound n zero h = omega arith
binomial-bound n (suc k) h =
    le_trans (div-le_self (binomial n k * (n - k)) (suc k)) (rw pow-suc (mul-le-mul (binomial-bound n k h) (omega arith)))

-- the product of a turn fits a word
pub product_fits : (n i : ℕ) → n ≤ 255 → i < 7 → binomial n i * (n - i) < 2 ^ 64
product_fits n i h l =
    lt_of_le_of_lt (mul-le-mul (le_trans (binomial-bound n i h) (pow-le-pow_right (omega arith) {j = 6} (omega arith))) (sub-le n i))
    (lt_of_le_of_lt (mul-le-mul_left (256 ^ 6) h) (omega arith))

-- ---- the list of lines

-- those whose first coordinate is i
abbrev pub branch : ℕ → ℕ → ℕ → List (List ℕ)
branch d rest i = map (λ t. i ∷ t) (tuples d (rest - i))

-- the branches below n, and what is left of the sum along Pascal's diagonal
diagonal : (d : ℕ) → ((r : ℕ) → length (tuples d r) ≡ pascal d (r + d))
    → (r n : ℕ) → n ≤ suc r → length (join_below (branch d r) n) + pascal (suc d) (suc r - n + d) ≡ pascal (suc d) (suc r + d)
unfolding join_below
diagonal d shorter r zero h = rw (sub-zero, zero-add)
diagonal d shorter r (suc n) h =
    let i = diagonal d shorter r n (omega arith) in
    let e : suc r - n + d ≡ suc (r - n + d) = omega arith in
    let one = length-append (join_below (branch d r) n) (branch d r n) in
    let two = length-map (tuples d (r - n)) (λ t. n ∷ t) ∙ shorter (r - n) in
    let p = pascal-more d (r - n + d) in
    rw suc-sub-suc (omega (arith, one, two, p, rw e at i))

pub tuples-count : (d r : ℕ) → length (tuples d r) ≡ pascal d (r + d)
unfolding tuples pascal
tuples-count zero r = refl
tuples-count (suc d) r =
    let i = diagonal d (tuples-count d) r (suc r) (omega arith) in
    let e : suc r - suc r + d ≡ d = omega arith in
    let f : suc r + d ≡ r + suc d = omega arith in
    rw (← f) (omega (arith, rw e at i, pascal-over (suc d) d (omega arith)))

-- LAW: the point count is the length of the list of points
pub lattice-count : (m h : ℕ) → 1 ≤ m → point_count m h ≡ length (lattice m h)
unfolding point_count
lattice-count m h p =
    let e : h + m - 1 ≡ h + (m - 1) = omega arith in
    rw e (binomial-pascal (h + (m - 1)) (m - 1) ∙ sym (tuples-count (m - 1) h))

-- there is a line
tuples-some : (d r : ℕ) → 1 ≤ length (tuples d r)
unfolding tuples join_below
tuples-some zero r = omega arith
tuples-some (suc d) r =
    omega (arith, length-append (join_below (branch d r) r) (branch d r r), length-map (tuples d (r - r)) (λ t. r ∷ t), tuples-some d (r - r))

pub lines-some : (m h : ℕ) → 1 ≤ m → 0 < point_count m h
lines-some m h w = omega (arith, lattice-count m h w, tuples-some (m - 1) h)
