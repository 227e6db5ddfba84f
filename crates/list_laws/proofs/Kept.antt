-- Laws of `keep_below`: the numbers below n that pass, rising.
use Prim.Native.Nat.{ℕ, zero, suc, ◌+◌, ◌<◌}
use mathlib.Core.Path.{◌≡◌, refl, ap, sym, subst, ◌∙◌}
use mathlib.Core.Bool.{Bool, true, false, cond, ◌&&◌, and-true}
use mathlib.Core.List.{List, [], ◌∷◌, ◌++◌, append-nil}
use native.Mathlib.Numerals.{add-one}
use native.Mathlib.Omega.{arith}
use borrow.Author.Tests.{eq-eqb, ne_eqb}
use lib.ListN.{length, length-append}
use lib.Dec.{eqb}
use Rattle.model.specs.Lists.{one, count_below, keep_below, list_below, keep, In}
use Rattle.list_laws.specs.Occ.{occ, Below, Exactly}
use Rattle.list_laws.proofs.Bools.{by_bool, and_no}
use Rattle.list_laws.proofs.Below.{same-below}
use Rattle.list_laws.proofs.Counts.{count_below_none, count_below_yes, count_below_no, count_below-up, count_below-sum, sum_below_point}
use Rattle.list_laws.proofs.Members.{keep_append, keep-length, in_keep, place_of, exactly-of}
use Rattle.list_laws.proofs.Built.{list_below-length, list_below-at}

pub keep_below_none : (f : ℕ → Bool) → keep_below f 0 ≡ []
unfolding keep_below
keep_below_none f = refl

pub keep_below-more : (f : ℕ → Bool) (n : ℕ) {b : Bool} → f n ≡ b → keep_below f (n + 1) ≡ keep_below f n ++ cond b (n ∷ []) []
unfolding keep_below
keep_below-more f n e = ap (keep_below f) (add-one n) ∙ ap (λ b. keep_below f n ++ cond b (n ∷ []) []) e

pub keep_below_no : (f : ℕ → Bool) (n : ℕ) → f n ≡ false → keep_below f (n + 1) ≡ keep_below f n
keep_below_no f n e = keep_below-more f n e ∙ append-nil (keep_below f n)

-- the numbers below n that pass are what a test keeps of all of them
pub keep_below-keep : (f : ℕ → Bool) (n : ℕ) → keep_below f n ≡ keep f (list_below (λ i. i) n)
unfolding keep_below keep list_below
keep_below-keep f zero = refl
keep_below-keep f (suc n) = ap (λ l. l ++ cond (f n) (n ∷ []) []) (keep_below-keep f n) ∙ sym (keep_append f (list_below (λ i. i) n) (n ∷ []))

-- what is kept of what is kept passes both tests
pub keep-keep : (f g : ℕ → Bool) (l : List ℕ) → keep f (keep g l) ≡ keep (λ p. g p && f p) l
unfolding keep
keep-keep f g [] = refl
keep-keep f g (x ∷ l) = by_bool (g x)
    (λ e. rw e (by_bool (f x) (λ v. rw v (ap (λ t. x ∷ t) (keep-keep f g l))) (λ v. rw v (keep-keep f g l))))
    (λ e. rw e (keep-keep f g l))

pub keep-keep_below : (f g : ℕ → Bool) (n : ℕ) → keep f (keep_below g n) ≡ keep_below (λ l. g l && f l) n
keep-keep_below f g n = ap (keep f) (keep_below-keep g n) ∙ keep-keep f g _ ∙ sym (keep_below-keep _ n)

pub keep_below-same : (f g : ℕ → Bool) (n : ℕ) → ((t : ℕ) → t < n → f t ≡ g t) → keep_below f n ≡ keep_below g n
unfolding keep_below
keep_below-same = same-below keep_below (λ f g. refl) (λ f g n e v. rw (e, v))

pub keep_below-length : (f : ℕ → Bool) (n : ℕ) → length (keep_below f n) ≡ count_below f n
unfolding keep_below
keep_below-length f zero = sym (count_below_none f)
keep_below-length f (suc n) = by_bool (f n)
    (λ e. rw (e, length-append, ← add-one n, count_below_yes f n e) (omega (arith, keep_below-length f n)))
    (λ e. rw (e, append-nil, ← add-one n, count_below_no f n e) (keep_below-length f n))

-- one that passes comes after those below it
pub keep_below-room : (f : ℕ → Bool) (n q : ℕ) → q < n → f q ≡ true → length (keep_below f q) < length (keep_below f n)
keep_below-room f n q h e =
    let up = count_below-up f (q + 1) n (omega arith) in
    omega (arith, keep_below-length f q, keep_below-length f n, count_below_yes f q e)

-- each number below n that passes is kept once, and no other
keep_below_times : (f : ℕ → Bool) (n q : ℕ) → occ q (keep_below f n) ≡ count_below (λ t. f t && eqb t q) n
unfolding occ
keep_below_times f n q = sym (keep-length _ _) ∙ ap length (keep-keep_below (λ t. eqb t q) f n) ∙ keep_below-length _ n

pub keep_below-below : (f : ℕ → Bool) (n : ℕ) → Below n (keep_below f n)
keep_below-below f n q m =
    let r = place_of (in_keep f (list_below (λ i. i) n) q (subst (In q) (keep_below-keep f n) m)).0 in
    let l : r.0 < n = omega (arith, r.1, list_below-length (λ i. i) n) in
    omega (arith, l, r.2, list_below-at (λ i. i) n 0 r.0 l)

pub keep_below-occ : (f : ℕ → Bool) (n q : ℕ) → q < n → occ q (keep_below f n) ≡ one (f q)
keep_below-occ f n q h =
    keep_below_times f n q ∙ count_below-sum _ n ∙ sum_below_point _ n q h (λ t u v. ap one (and_no (f t) _ (ne_eqb t q v)))
    ∙ ap one (ap (λ b. f q && b) (eq-eqb q q refl) ∙ and-true (f q))

pub keep_below-exactly : (f : ℕ → Bool) (n : ℕ) → Exactly f n (keep_below f n)
keep_below-exactly f n = exactly-of f n (keep_below f n) (keep_below-below f n) (keep_below-occ f n)

pub keep_below_in : (f : ℕ → Bool) (n q : ℕ) → q < n → f q ≡ true → In q (keep_below f n)
keep_below_in f n = (keep_below-exactly f n).every

pub in_keep_below : (f : ℕ → Bool) (n q : ℕ) → In q (keep_below f n) → (q < n) × (f q ≡ true)
in_keep_below f n q m = ((keep_below-exactly f n).below q m, (keep_below-exactly f n).passes q m)
