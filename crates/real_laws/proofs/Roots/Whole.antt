-- What `whole_root` and `near_root` are.
use mathlib.Core.Path.{◌≡◌, refl, ap, ◌∙◌, subst}
use Prim.Native.Nat.{ℕ, zero, suc, ◌+◌, ◌-◌, ◌*◌, ◌/◌, ◌^◌, ◌≤◌, ◌<◌, zero-le}
use native.Mathlib.Nat.{le_trans, le_of_eq, lt_of_lt_of_le, le_antisymm, le_of_suc-le-suc, lt_of_not-le, not-le_of_lt, mul-le-mul, mul-le-mul_right, mul_comm, add-mul, mul-add, mul-one, one-mul, pow-suc, div-lt_iff_lt-mul, zero-lt-suc}
use native.Mathlib.Omega.{arith}
use borrow.Author.Tests.{ltb-true, ltb-false, leb-true, leb-false}
use lib.Dec.{leb, ltb}
use lib.Ieee.{size}
use lib.Ieee.Digits.{size-lt}
use Rattle.list_laws.proofs.Bools.{by_cond}
use Rattle.model.specs.Numbers.{grown, root_in, whole_root, closer, near_root}

-- ---- q is the largest whole number whose square is at most n
abbrev pub IsRoot : ℕ → ℕ → Type 0
IsRoot n q = (q * q ≤ n) × (n < (q + 1) * (q + 1))

-- squares of sums, for `omega`, to which a product of two unknowns is one unknown
pub square-add : (a b : ℕ) → (a + b) * (a + b) ≡ a * a + 2 * (a * b) + b * b
square-add a b =
    let x : (a + b) * (a + b) ≡ a * (a + b) + b * (a + b) = add-mul a b (a + b) in
    let y : a * (a + b) ≡ a * a + a * b = mul-add a a b in
    let z : b * (a + b) ≡ b * a + b * b = mul-add b a b in
    let w : b * a ≡ a * b = mul_comm b a in
    omega arith

pub square_suc : (q : ℕ) → (q + 1) * (q + 1) ≡ q * q + 2 * q + 1
square_suc q = let x = square-add q 1 in let y = mul-one q in omega arith

pub square-twice : (r : ℕ) → (r + r) * (r + r) ≡ 4 * (r * r)
square-twice r = let x = square-add r r in omega arith

-- squares are in the order of their roots
pub square_mono : (a b : ℕ) → a ≤ b → a * a ≤ b * b
square_mono a b h = mul-le-mul h h

pub root_le : (n n' q q' : ℕ) → IsRoot n q → IsRoot n' q' → n ≤ n' → q ≤ q'
root_le n n' q q' a b h =
    le_of_suc-le-suc (lt_of_not-le (λ (g : suc q' ≤ q).
    not-le_of_lt b.1 (le_trans (square_mono (q' + 1) q (omega arith)) (le_trans a.0 h))))

pub root_only : (n q q' : ℕ) → IsRoot n q → IsRoot n q' → q ≡ q'
root_only n q q' a b = le_antisymm (root_le n n q q' a b (le_of_eq refl)) (root_le n n q' q b a (le_of_eq refl))

-- ---- `whole_root` is that
grown_is : (n r : ℕ) → IsRoot (n / 4) r → IsRoot n (grown n r)
unfolding grown
grown_is n r h =
    let o = (r + r + 1) * (r + r + 1) in
    let s1 = square-twice r in
    let s2 = square_suc (r + r) in
    let s3 = square_suc (r + r + 1) in
    let s4 = square_suc r in
    by_cond (IsRoot n) (leb o n) (r + r + 1) (r + r)
    (λ e. (leb-true o n e, let x = h.1 in omega arith))
    (λ e. (let x = h.0 in omega arith, leb-false o n e))

in_four : (i n : ℕ) → n < 4 ^ suc i → n / 4 < 4 ^ i
in_four i n h = (div-lt_iff_lt-mul (zero-lt-suc 3)).1 (subst (λ (x : ℕ). n < x) (pow-suc 4 i) h)

root_in_is : (i n : ℕ) → n < 4 ^ i → IsRoot n (root_in i n)
unfolding root_in
root_in_is zero n h = (zero-le, h)
root_in_is (suc i) n h = grown_is n (root_in i (n / 4)) (root_in_is i (n / 4) (in_four i n h))

four_pow : (i : ℕ) → 2 ^ i ≤ 4 ^ i
four_pow zero = le_of_eq refl
four_pow (suc i) = let h = four_pow i in let a = pow-suc 2 i in let b = pow-suc 4 i in omega arith

pub whole_root_is : (n : ℕ) → IsRoot n (whole_root n)
unfolding whole_root
whole_root_is n = root_in_is (size n) n (lt_of_lt_of_le (size-lt n) (four_pow (size n)))

-- ---- q is nearest to the root of n: n is from (q - 1/2) * (q - 1/2) to (q + 1/2) * (q + 1/2), and on neither end, since those are no whole numbers
abbrev pub IsNear : ℕ → ℕ → Type 0
IsNear n q = (n ≤ q * q + q) × (0 < n → q * q < n + q)

pub closer-near : (n q : ℕ) → IsRoot n q → IsNear n (closer n q)
unfolding closer
closer-near n q h = by_cond (IsNear n) (ltb (q * q + q) n) (suc q) q
    (λ e.
    let s : suc q * suc q ≡ q * q + 2 * q + 1 = subst (λ (x : ℕ). x * x ≡ q * q + 2 * q + 1) (native.Mathlib.Numerals.add-one q) (square_suc q) in
    let t = square_suc q in
    let l = ltb-true (q * q + q) n e in
    let u = h.1 in
    (omega arith, λ p. omega arith))
    (λ e. (ltb-false (q * q + q) n e, λ p. let z = some p in let u = h.0 in omega arith))
  where
    some : 0 < n → 0 < q
    some p = lt_of_not-le (λ (g : q ≤ 0). let e : q ≡ 0 = omega arith in let z : n < 1 = subst (λ (x : ℕ). n < (x + 1) * (x + 1)) e h.1 in omega arith)

pub near_root-near : (n : ℕ) → IsNear n (near_root n)
unfolding near_root
near_root-near n = closer-near n (whole_root n) (whole_root_is n)

-- the root that a loop found, with what is left of n
pub near_root-of : (n q : ℕ) → IsRoot n q → near_root n ≡ closer n q
unfolding near_root
near_root-of n q h = ap (closer n) (root_only n (whole_root n) q (whole_root_is n) h)

-- ---- between numbers

-- q * (q - 1) < n, for n above 0, in the form that a smaller q' contradicts
near_step : (q q' : ℕ) → suc q' ≤ q → q' * q' + q' + q ≤ q * q
near_step q q' h =
    let b : (q' + 1) * q ≤ q * q = mul-le-mul_right q (omega arith) in
    let c : (q' + 1) * q ≡ q' * q + q = add-mul q' 1 q ∙ ap (λ (x : ℕ). q' * q + x) (one-mul q) in
    let f : q' * (q' + 1) ≤ q' * q = mul-le-mul (le_of_eq refl) (omega arith) in
    let g : q' * (q' + 1) ≡ q' * q' + q' = mul-add q' q' 1 ∙ ap (λ (x : ℕ). q' * q' + x) (mul-one q') in
    omega arith

pub near_mono : (n n' q q' : ℕ) → IsNear n q → IsNear n' q' → 0 < n → n ≤ n' → q ≤ q'
near_mono n n' q q' a b p h =
    le_of_suc-le-suc (lt_of_not-le (λ (g : suc q' ≤ q). let x = near_step q q' g in let y = a.1 p in let z = b.0 in omega arith))

-- near the root of a square, or of more
pub near_ge : (n q c : ℕ) → IsNear n q → c * c ≤ n → c ≤ q
near_ge n q c a h = le_of_suc-le-suc (lt_of_not-le (λ (g : suc q ≤ c). let x = near_step c q g in let y = a.0 in omega arith))

-- up to (c - 1/2) * (c - 1/2)
pub near_lt : (n q c : ℕ) → IsNear n q → 0 < n → n + c ≤ c * c → 0 < c → q < c
near_lt n q c a p h C = lt_of_not-le (λ (g : c ≤ q).
    let d = c - 1 in
    let s : c * c ≡ d * d + 2 * d + 1 = ap (λ (x : ℕ). x * x) (omega arith) ∙ square_suc d in
    let t = near_step q d (omega arith) in
    let x = a.1 p in
    omega arith)
