-- Laws of `tally`, `occ`, `has`, `In`, `Distinct` and `keep`.
use Prim.Native.Nat.{ℕ, zero, suc, ◌+◌, ◌≤◌, ◌<◌}
use mathlib.Core.Path.{◌≡◌, refl, ap, ap₂, sym, ◌∙◌, subst}
use mathlib.Core.Bool.{Bool, true, false, cond, ◌&&◌, ◌||◌, and-true, or_assoc, true≢false}
use mathlib.Core.List.Memᴰ
use mathlib.Core.List.Pairwise
use mathlib.Core.List.{List, [], ◌∷◌, ◌++◌, map, Memᴰ, head-eq_of_cons-eq, tail-eq_of_cons-eq, Nodup, Nodup-cons, Nodup-nil, Nodup-append}
use mathlib.Core.Logic.{◌⊎◌, inl, inr, ⊎_elim, ◌≢◌, ∥∥₁_elim}
use mathlib.Core.HLevel.{⊥_prop, ¬_prop}
use native.Mathlib.Nat.{not-suc-le-zero, zero-add}
use native.Mathlib.Omega.{arith}
use borrow.Author.Tests.{eq-eqb, ne_eqb, eqb-true, lt-ltb, le-ltb, ltb-true}
use lib.Dec.{eqb, ltb}
use lib.ListN.{length, get_or}
use Rattle.model.specs.Lists.{one, count_below, sum_below, all_in, has, place_in, keep, tally, In, Distinct}
use Rattle.list_laws.specs.Occ.{occ, Below, Exactly}
use Rattle.list_laws.proofs.Bools.{by_bool, no_pass, one_le, one_true}
use Rattle.list_laws.proofs.Below.{by_lt}
use Rattle.list_laws.proofs.Tests.{all_in-each}
use Rattle.list_laws.proofs.First.{first_below-passes, first_below-before}
use Rattle.list_laws.proofs.Counts.{count_below-sum, count_below-same, count_below-one, sum_below-same, sum_below-add, sum_below-zero}

-- ---- tally: how many entries pass

pub tally_nil : (f : ℕ → Bool) → tally f [] ≡ 0
unfolding tally
tally_nil f = refl

pub tally_cons : (f : ℕ → Bool) (x : ℕ) (l : List ℕ) → tally f (x ∷ l) ≡ one (f x) + tally f l
unfolding tally
tally_cons f x l = refl

pub tally-append : (f : ℕ → Bool) (s t : List ℕ) → tally f (s ++ t) ≡ tally f s + tally f t
unfolding tally
tally-append f [] t = omega arith
tally-append f (x ∷ s) t = omega (arith, tally-append f s t)

-- one entry more at the end
pub tally_snoc : (f : ℕ → Bool) (l : List ℕ) (p : ℕ) → tally f (l ++ (p ∷ [])) ≡ tally f l + one (f p)
unfolding tally
tally_snoc f l p = omega (arith, tally-append f l (p ∷ []))

pub tally_le : (f : ℕ → Bool) (l : List ℕ) → tally f l ≤ length l
unfolding tally
tally_le f [] = omega arith
tally_le f (x ∷ l) = omega (arith, tally_le f l, one_le (f x))

pub tally-all : (l : List ℕ) → tally (λ t. true) l ≡ length l
unfolding tally
tally-all [] = refl
tally-all (x ∷ l) = omega (arith, tally-all l)

-- ---- occ: how often a number stands in a list

pub occ_nil : (q : ℕ) → occ q [] ≡ 0
unfolding occ tally
occ_nil q = refl

pub occ_cons : (q x : ℕ) (l : List ℕ) → occ q (x ∷ l) ≡ one (eqb x q) + occ q l
unfolding occ tally
occ_cons q x l = refl

pub occ-here : (x : ℕ) (l : List ℕ) → occ x (x ∷ l) ≡ suc (occ x l)
occ-here x l = omega (arith, occ_cons x x l, ap one (eq-eqb x x refl))

pub occ-other : (q x : ℕ) (l : List ℕ) → (x ≡ q → ⊥) → occ q (x ∷ l) ≡ occ q l
occ-other q x l h = omega (arith, occ_cons q x l, ap one (ne_eqb x q h))

pub occ-append : (q : ℕ) (s t : List ℕ) → occ q (s ++ t) ≡ occ q s + occ q t
unfolding occ
occ-append q s t = tally-append (λ x. eqb x q) s t

-- a list of no member is empty
pub no_member : (l : List ℕ) → ((q : ℕ) → In q l → ⊥) → l ≡ []
no_member [] h = refl
no_member (x ∷ l) h = absurd (h x (Memᴰ.head refl))

-- membership as a type, and as a count
pub in_occ : (q : ℕ) (l : List ℕ) → In q l → 0 < occ q l
in_occ q [] h = absurd (Memᴰ.not-nil h)
in_occ q (x ∷ l) h =
    ⊎_elim (λ e. omega (arith, occ_cons q x l, ap one (eq-eqb x q (sym e)))) (λ m. omega (arith, occ_cons q x l, in_occ q l m)) (Memᴰ.cases_cons h)

pub occ_in : (q : ℕ) (l : List ℕ) → 0 < occ q l → In q l
occ_in q [] h = absurd (omega (arith, occ_nil q))
occ_in q (x ∷ l) h = by_bool (eqb x q)
    (λ e. Memᴰ.head (sym (eqb-true x q e)))
    (λ e. Memᴰ.tail (occ_in q l (omega (arith, occ_cons q x l, ap one e))))

-- and as a test
pub has_nil : (q : ℕ) → has [] q ≡ false
unfolding has
has_nil q = refl

pub has_cons : (x : ℕ) (l : List ℕ) (q : ℕ) → has (x ∷ l) q ≡ (eqb x q || has l q)
unfolding has
has_cons x l q = refl

pub has-occ : (l : List ℕ) (q : ℕ) → has l q ≡ ltb 0 (occ q l)
has-occ [] q = has_nil q ∙ sym (ap (ltb 0) (occ_nil q))
has-occ (x ∷ l) q = has_cons x l q ∙ by_bool (eqb x q)
    (λ e. ap (λ b. b || has l q) e ∙ sym (ap (ltb 0) (occ_cons q x l ∙ ap (λ b. one b + occ q l) e) ∙ lt-ltb 0 (1 + occ q l) (omega arith)))
    (λ e. ap (λ b. b || has l q) e ∙ has-occ l q ∙ sym (ap (ltb 0) (occ_cons q x l ∙ ap (λ b. one b + occ q l) e ∙ zero-add (occ q l))))

pub has_in : (l : List ℕ) (q : ℕ) → has l q ≡ true → In q l
has_in l q e = occ_in q l (ltb-true 0 (occ q l) (sym (has-occ l q) ∙ e))

pub in_has : (l : List ℕ) (q : ℕ) → In q l → has l q ≡ true
in_has l q h = has-occ l q ∙ lt-ltb 0 (occ q l) (in_occ q l h)

-- a test that fails, and a number that is not listed
pub has-not : (l : List ℕ) (q : ℕ) → has l q ≡ false → In q l → ⊥
has-not l q e m = true≢false (sym (in_has l q m) ∙ e)

pub not-has : (l : List ℕ) (q : ℕ) → (In q l → ⊥) → has l q ≡ false
not-has l q h = no_pass (has l q) (λ e. h (has_in l q e))

pub has-append : (s t : List ℕ) (q : ℕ) → has (s ++ t) q ≡ (has s q || has t q)
unfolding has
has-append [] t q = refl
has-append (x ∷ s) t q = ap (λ b. eqb x q || b) (has-append s t q) ∙ sym (or_assoc (eqb x q) (has s q) (has t q))

-- ---- Distinct: no number is listed twice

pub occ-distinct : (l : List ℕ) → ((q : ℕ) → occ q l ≤ 1) → Distinct l
occ-distinct [] h = Pairwise.nil
occ-distinct (x ∷ l) h =
    Pairwise.cons {a = x} {l = l}
    (λ q m e. ∥∥₁_elim m ⊥_prop (λ d. omega (arith, in_occ q l d, occ-here x l, h x, ap (λ t. occ t l) e)))
    (occ-distinct l (λ q. omega (arith, h q, occ_cons q x l)))

-- ---- keep: those that pass, in listed order

pub keep_nil : (f : ℕ → Bool) → keep f [] ≡ []
unfolding keep
keep_nil f = refl

pub keep_yes : (f : ℕ → Bool) (x : ℕ) (l : List ℕ) → f x ≡ true → keep f (x ∷ l) ≡ x ∷ keep f l
unfolding keep
keep_yes f x l e = rw e

pub keep_no : (f : ℕ → Bool) (x : ℕ) (l : List ℕ) → f x ≡ false → keep f (x ∷ l) ≡ keep f l
unfolding keep
keep_no f x l e = rw e

pub keep_append : (f : ℕ → Bool) (s t : List ℕ) → keep f (s ++ t) ≡ keep f s ++ keep f t
unfolding keep
keep_append f [] t = refl
keep_append f (x ∷ s) t = by_bool (f x)
    (λ e. rw e (ap (λ l. x ∷ l) (keep_append f s t)))
    (λ e. rw e (keep_append f s t))

pub keep-length : (f : ℕ → Bool) (l : List ℕ) → length (keep f l) ≡ tally f l
unfolding keep tally
keep-length f [] = refl
keep-length f (x ∷ l) = by_bool (f x)
    (λ e. rw e (omega (arith, keep-length f l)))
    (λ e. rw e (omega (arith, keep-length f l)))

pub keep-occ : (f : ℕ → Bool) (l : List ℕ) (q : ℕ) → occ q (keep f l) ≡ cond (f q) (occ q l) 0
keep-occ f [] q = ap (occ q) (keep_nil f) ∙ by_bool (f q) (λ e. rw e) (λ e. rw e (occ_nil q))
keep-occ f (x ∷ l) q = by_bool (f x)
    (λ e. ap (occ q) (keep_yes f x l e) ∙ occ_cons q x (keep f l) ∙ ap (λ k. one (eqb x q) + k) (keep-occ f l q)
    ∙ by_bool (f q)
    (λ v. rw v (sym (occ_cons q x l)))
    (λ v. rw v (omega (arith, ap one (ne_eqb x q (λ z. true≢false (sym e ∙ ap f z ∙ v)))))))
    (λ e. ap (occ q) (keep_no f x l e) ∙ keep-occ f l q
    ∙ by_bool (f q)
    (λ v. rw v (sym (occ-other q x l (λ z. true≢false (sym v ∙ ap f (sym z) ∙ e)))))
    (λ v. rw v))

-- what is kept of images are the images of what is kept
pub keep-map : (f : ℕ → Bool) (h : ℕ → ℕ) (l : List ℕ) → keep f (map h l) ≡ map h (keep (λ i. f (h i)) l)
unfolding keep
keep-map f h [] = refl
keep-map f h (x ∷ l) = by_bool (f (h x)) (λ e. rw e (ap (λ t. h x ∷ t) (keep-map f h l))) (λ e. rw e (keep-map f h l))

-- those kept are the members that pass
pub keep_in : (f : ℕ → Bool) (l : List ℕ) (q : ℕ) → In q l → f q ≡ true → In q (keep f l)
keep_in f l q m e = occ_in q (keep f l) (omega (arith, in_occ q l m, keep-occ f l q ∙ ap (λ b. cond b (occ q l) 0) e))

pub in_keep : (f : ℕ → Bool) (l : List ℕ) (q : ℕ) → In q (keep f l) → In q l × (f q ≡ true)
in_keep f l q m =
    let o = in_occ q (keep f l) m in
    let k = keep-occ f l q in
    by_bool (f q)
    (λ e. (occ_in q l (omega (arith, ap (λ b. cond b (occ q l) 0) e)), e))
    (λ e. absurd (omega (arith, ap (λ b. cond b (occ q l) 0) e)))

-- only the members matter
pub tally-same : (f g : ℕ → Bool) (l : List ℕ) → ((q : ℕ) → In q l → f q ≡ g q) → tally f l ≡ tally g l
unfolding tally
tally-same f g [] h = refl
tally-same f g (x ∷ l) h =
    omega (arith, ap one (h x (Memᴰ.head refl)), tally-same f g l (λ q m. h q (Memᴰ.tail m)))

pub keep_same : (f g : ℕ → Bool) (l : List ℕ) → ((q : ℕ) → In q l → f q ≡ g q) → keep f l ≡ keep g l
unfolding keep
keep_same f g [] h = refl
keep_same f g (x ∷ l) h = rw (h x (Memᴰ.head refl), keep_same f g l (λ q m. h q (Memᴰ.tail m)))

-- how many entries have each label below n, all together: the length
pub tally_labels : (label : ℕ → ℕ) (n : ℕ) (l : List ℕ) → ((q : ℕ) → In q l → label q < n)
    → sum_below (λ j. tally (λ q. eqb (label q) j) l) n ≡ length l
unfolding tally
tally_labels label n [] h = sum_below-zero n
tally_labels label n (x ∷ l) h =
    let x_below : label x < n = h x (Memᴰ.head refl) in
    let split = sum_below-add (λ j. one (eqb (label x) j)) (λ j. tally (λ q. eqb (label q) j) l) n in
    let point : sum_below (λ j. one (eqb (label x) j)) n ≡ 1 =
    sym (count_below-sum (eqb (label x)) n)
    ∙ count_below-one (eqb (label x)) n (label x) x_below (eq-eqb (label x) (label x) refl) (λ t v. ne_eqb (label x) t (λ z. v (sym z))) in
    omega (arith, split, point, tally_labels label n l (λ q m. h q (Memᴰ.tail m)))

-- ---- a list that has the numbers below n as a test says

-- a list with each number below n as often as a test says, and no other: its tally is the count of the numbers below n that pass both
pub tally-below : (f g : ℕ → Bool) (n : ℕ) (l : List ℕ) → Below n l → ((q : ℕ) → q < n → occ q l ≡ one (g q))
    → tally f l ≡ count_below (λ t. g t && f t) n
unfolding occ
tally-below f g n l a h =
    sym (keep-length f l) ∙ sym (tally_labels (λ q. q) n (keep f l) (λ q m. a q (in_keep f l q m).0))
    ∙ sum_below-same _ _ n (λ t u. keep-occ f l t ∙ ap (λ k. cond (f t) k 0) (h t u) ∙ both (f t) (g t)) ∙ sym (count_below-sum (λ t. g t && f t) n)
  where
    both : (x y : Bool) → cond x (one y) 0 ≡ one (y && x)
    both true true = refl
    both true false = refl
    both false true = refl
    both false false = refl

-- such a list has as many entries as numbers pass
pub length-below : (g : ℕ → Bool) (n : ℕ) (l : List ℕ) → Below n l → ((q : ℕ) → q < n → occ q l ≡ one (g q)) → length l ≡ count_below g n
length-below g n l a h = sym (tally-all l) ∙ tally-below (λ t. true) g n l a h ∙ count_below-same _ _ n (λ t u. and-true (g t))

-- ---- one more at the end

pub in_snoc : (l : List ℕ) (p q : ℕ) → In q (l ++ (p ∷ [])) → In q l ⊎ (q ≡ p)
in_snoc l p q m = go (Memᴰ.append_cases l m)
  where
    go : In q l ⊎ In q (p ∷ []) → In q l ⊎ (q ≡ p)
    go (inl h) = inl h
    go (inr h) = inr (Memᴰ.eq_of_singleton h)

-- the first of a list of different numbers is not among the others
pub first-apart : {p : ℕ} {l : List ℕ} → Distinct (p ∷ l) → In p l → ⊥
first-apart d m = (Nodup-cons.0 d).0 ∣ m ∣₁

-- ---- by place

pub empty_of : (l : List ℕ) → length l ≡ 0 → l ≡ []
empty_of [] h = refl
empty_of (x ∷ l) h = absurd (omega arith)

pub get_d_member : {A : Type 0} (d : A) (l : List A) (i : ℕ) → i < length l → Memᴰ (get_or l i d) l
get_d_member d [] i h = absurd (omega arith)
get_d_member d (x ∷ l) zero h = Memᴰ.head refl
get_d_member d (x ∷ l) (suc i) h = Memᴰ.tail (get_d_member d l i (omega arith))

pub get_d_in : (l : List ℕ) (i : ℕ) → i < length l → In (get_or l i 0) l
get_d_in l i h = get_d_member 0 l i h

-- and what is listed stands at some place
pub place_of : {p : ℕ} {l : List ℕ} → In p l → (i : ℕ) × (i < length l) × (get_or l i 0 ≡ p)
place_of (Memᴰ.head e) = (0, omega arith, sym e)
place_of (Memᴰ.tail m) = let r = place_of m in (suc r.0, omega (arith, r.1), r.2)

-- a number is listed just where its place is within the list
pub has-place : (l : List ℕ) (q : ℕ) → has l q ≡ ltb (place_in l q) (length l)
has-place l q = by_lt (place_in l q) (length l)
    (λ h. in_has l q (subst (λ p. In p l) (eqb-true _ q (first_below-passes _ (length l) h)) (get_d_in l (place_in l q) h)) ∙ sym (lt-ltb _ (length l) h))
    (λ h. not-has l q (λ m. let r = place_of m in
    true≢false (sym (eq-eqb _ q r.2) ∙ first_below-before (λ i. eqb (get_or l i 0) q) (length l) r.0 (omega (arith, r.1))))
    ∙ sym (le-ltb _ (length l) h))

-- different entries stand at different places
pub different-places : (l : List ℕ) → Distinct l → (i j : ℕ) → i < length l → j < length l → get_or l i 0 ≡ get_or l j 0 → i ≡ j
different-places [] d i j h k e = absurd (not-suc-le-zero h)
different-places (x ∷ l) d zero zero h k e = refl
different-places (x ∷ l) (Pairwise.cons a d) zero (suc j) h k e =
    absurd (a (get_or l j 0) ∣ get_d_in l j (omega arith) ∣₁ e)
different-places (x ∷ l) (Pairwise.cons a d) (suc i) zero h k e =
    absurd (a (get_or l i 0) ∣ get_d_in l i (omega arith) ∣₁ (sym e))
different-places (x ∷ l) (Pairwise.cons a d) (suc i) (suc j) h k e = ap suc (different-places l d i j (omega arith) (omega arith) e)

-- ---- Below: every entry is below n

pub below-append : (n : ℕ) (s t : List ℕ) → Below n s → Below n t → Below n (s ++ t)
below-append n s t h k q m = ⊎_elim (h q) (k q) (Memᴰ.append_cases s m)

pub below_none : (n : ℕ) → Below n []
below_none n q m = absurd (Memᴰ.not-nil m)

pub below_snoc : (n : ℕ) (l : List ℕ) (p : ℕ) → Below n l → p < n → Below n (l ++ (p ∷ []))
below_snoc n l p h k = below-append n l (p ∷ []) h (λ q m. rw (Memᴰ.eq_of_singleton m) k)

-- ---- Exactly: each number below n that passes, once, and no other

pub exactly-of : (g : ℕ → Bool) (n : ℕ) (l : List ℕ) → Below n l → ((q : ℕ) → q < n → occ q l ≡ one (g q)) → Exactly g n l
exactly-of g n l a h = record {
  distinct = occ-distinct l (λ q. by_lt 0 (occ q l) (λ m. omega (arith, h q (a q (occ_in q l m)), one_le (g q))) (λ z. omega arith));
  below = a;
  passes = λ q m. one_true (g q) (omega (arith, h q (a q m), in_occ q l m, one_le (g q)));
  every = λ q u e. occ_in q l (omega (arith, h q u, ap one e));
}

-- two lists of different entries that share none
pub distinct_append : {A : Type 0} (s t : List A) → Nodup s → Nodup t → ((a : A) → Memᴰ a s → Memᴰ a t → ⊥) → Nodup (s ++ t)
distinct_append s t d e h = Nodup-append.1 (d, e, λ a m k. ∥∥₁_elim m ⊥_prop (λ m'. ∥∥₁_elim k ⊥_prop (h a m')))

pub distinct_snoc : (l : List ℕ) (p : ℕ) → Distinct l → (In p l → ⊥) → Distinct (l ++ (p ∷ []))
distinct_snoc l p d h =
    distinct_append l (p ∷ []) d (Nodup-cons.1 (λ m. ∥∥₁_elim m ⊥_prop Memᴰ.not-nil, Nodup-nil)) (λ q m k. h (Memᴰ.cast (sym (Memᴰ.eq_of_singleton k)) m))

-- what every entry passes each member does
pub all_in-member : (f : ℕ → Bool) (l : List ℕ) → all_in f l ≡ true → (q : ℕ) → In q l → f q ≡ true
all_in-member f l e q m = let r = place_of m in ap f (sym r.2) ∙ all_in-each f 0 l e r.0 r.1

-- ---- images: where a map tells the entries of lists apart, it tells the lists apart, and keeps a list of different entries so

module _ {A B : Type 0} (f : A → B) where
  pub map-apart : (s t : List A) → ((a b : A) → Memᴰ a s → Memᴰ b t → f a ≡ f b → a ≡ b) → map f s ≡ map f t → s ≡ t
  map-apart [] [] h e = refl
  map-apart [] (b ∷ t) h e = absurd (omega (arith, ap length e))
  map-apart (a ∷ s) [] h e = absurd (omega (arith, ap length e))
  map-apart (a ∷ s) (b ∷ t) h e =
      ap₂ (λ x l. x ∷ l) (h a b (Memᴰ.head refl) (Memᴰ.head refl) (head-eq_of_cons-eq e))
      (map-apart s t (λ x y m k. h x y (Memᴰ.tail m) (Memᴰ.tail k)) (tail-eq_of_cons-eq e))

  pub distinct-map : (l : List A) → ((a b : A) → Memᴰ a l → Memᴰ b l → f a ≡ f b → a ≡ b) → Nodup l → Nodup (map f l)
  distinct-map l h d =
      Pairwise.map' {S = λ (x y : B). x ≢ y} f (λ x y. ¬_prop) {l = l}
      (Pairwise.imp_of_mem {R = λ (a b : A). a ≢ b} {S = λ (a b : A). f a ≢ f b} {l = l} (λ a b m k ne e. ∥∥₁_elim m ⊥_prop (λ m'. ∥∥₁_elim k ⊥_prop (λ k'. ne (h a b m' k' e)))) d)
