-- The children that are bred from: the records of a generation's first plans, without those whose number waits.
use Prim.Native.Nat.{ℕ, zero, suc, ◌+◌, ◌*◌, ◌≤◌, ◌<◌}
use mathlib.Core.Path.{◌≡◌, refl, sym, ap, ap₂, subst, ◌∙◌}
use mathlib.Core.Bool.{Bool, true, false, cond, not, true≢false}
use mathlib.Core.List.Nodup
use mathlib.Core.List.{List, [], ◌∷◌, ◌++◌, append-nil, Nodup-cons, Nodup-nil}
use mathlib.Core.Logic.{∥∥₁_elim}
use mathlib.Core.HLevel.{⊥_prop}
use native.Mathlib.Omega.{arith}
use borrow.Author.Tests.{eqb-true, ltb-true, lt-ltb, not-true}
use lib.Dec.{eqb, ltb}
use lib.ListN.{length, get_or, take, drop, length-append, take-append-drop}
use lib.Seq.{take-take, length-take-le}
use Rattle.list_laws.proofs.Bools.{by_bool, by_cond}
use Rattle.list_laws.proofs.Tests.{all_below-each}
use Rattle.list_laws.proofs.Built.{list_below-length, list_below_copy}
use Rattle.list_laws.proofs.Members.{keep_nil, keep_yes, keep_no, keep_append, keep-length, tally_le, tally-same, tally-all, has_nil, has-not, in_has, in_keep, first-apart, distinct_append}
use Rattle.model.specs.Lists.{all_below, last_below, list_below, join_below, keep, has, In, Distinct}
use Rattle.model.specs.Plan.{Plan, plan_at, plan_count, plan_words}
use Rattle.model.specs.Session.{record_of, block_of, numbers_of, child_of, children_of, stands_in}
use Rattle.session_pool_laws.proofs.Blocks.{block-length, block-plan, joined_numbers, joined-count, take_numbers}

-- ---- the last record of a number is of that number

last-passes : (f : ℕ → Bool) (n : ℕ) → last_below f n < n → f (last_below f n) ≡ true
unfolding last_below
last-passes f zero h = absurd (omega arith)
last-passes f (suc n) h =
    let k = last_below f n in
    by_cond (λ x. x < suc n → f x ≡ true) (f n) n _ (λ e l. e)
    (λ e. by_cond (λ x. x < suc n → f x ≡ true) (ltb k n) k (suc n) (λ t l. last-passes f n (ltb-true k n t)) (λ t l. absurd (omega arith))) h

pub record_number : (history : List ℕ) (plan : ℕ) → record_of history plan < plan_count history → (plan_at history (record_of history plan)).number ≡ plan
unfolding record_of
record_number history plan h = eqb-true _ plan (last-passes (λ k. eqb (plan_at history k).number plan) (plan_count history) h)

-- ---- the numbers of those that come

abbrev pub comers_of : List ℕ → List ℕ → ℕ → List ℕ
comers_of waiting plans n = keep (λ p. not (has waiting p)) (list_below (λ i. get_or plans i 0) n)

module _ (waiting history plans : List ℕ) where
  abbrev comes : ℕ → Bool
  comes p = not (has waiting p)

  abbrev number : ℕ → ℕ
  number i = get_or plans i 0

  -- one child: none where its number waits, and else its record
  child_none : (i : ℕ) → has waiting (number i) ≡ true → (child_of waiting history plans i ≡ []) × (keep comes (number i ∷ []) ≡ [])
  child_none i e = (rw e, keep_no comes (number i) [] (ap not e) ∙ keep_nil comes)

  child_one : (i : ℕ) → has waiting (number i) ≡ false
      → (child_of waiting history plans i ≡ block_of history (record_of history (number i))) × (keep comes (number i ∷ []) ≡ number i ∷ [])
  child_one i e = (rw e, keep_yes comes (number i) [] (ap not e) ∙ ap (λ l. number i ∷ l) (keep_nil comes))

  child_length : (i : ℕ) → length (child_of waiting history plans i) ≡ length (keep comes (number i ∷ [])) * plan_words
  child_length i = by_bool (has waiting (number i))
      (λ e. let c = child_none i e in omega (arith, ap length c.0, ap length c.1))
      (λ e. let c = child_one i e in omega (arith, ap length c.0, ap length c.1, block-length history (record_of history (number i))))

  pub child_few : (i : ℕ) → length (child_of waiting history plans i) ≤ plan_words
  child_few i = by_bool (has waiting (number i)) (λ e. omega (arith, ap length (child_none i e).0))
      (λ e. omega (arith, ap length (child_one i e).0, block-length history (record_of history (number i))))

  child_numbers : (i : ℕ) → stands_in history plans i ≡ true
      → numbers_of (child_of waiting history plans i) (length (keep comes (number i ∷ []))) ≡ keep comes (number i ∷ [])
  unfolding list_below
  child_numbers i s = by_bool (has waiting (number i))
      (λ e. let c = child_none i e in rw (c.0, c.1) refl)
      (λ e. let c = child_one i e in
      rw (c.0, c.1)
      (ap (λ (x : ℕ). x ∷ []) (ap (λ (p : Plan). p.number) (block-plan history (record_of history (number i))) ∙ record_number history (number i) (ltb-true _ _ s))))

  -- so many children: as many blocks as numbers come
  comers-more : (n : ℕ) → comers_of waiting plans (suc n) ≡ comers_of waiting plans n ++ keep comes (number n ∷ [])
  unfolding list_below
  comers-more n = keep_append comes (list_below number n) (number n ∷ [])

  pub children-length : (n : ℕ) → length (children_of waiting history plans n) ≡ length (comers_of waiting plans n) * plan_words
  unfolding join_below list_below
  children-length zero = omega (arith, ap length (keep_nil comes))
  children-length (suc n) =
      let a = children_of waiting history plans n in
      let b = child_of waiting history plans n in
      let k = comers_of waiting plans n in
      let l = keep comes (number n ∷ []) in
      let e = ap length (comers-more n) in
      omega (arith, length-append a b, length-append k l, children-length n, child_length n)

  -- and their numbers are those, in order
  pub children_numbers : (n : ℕ) → ((i : ℕ) → i < n → stands_in history plans i ≡ true)
      → numbers_of (children_of waiting history plans n) (length (comers_of waiting plans n)) ≡ comers_of waiting plans n
  unfolding join_below list_below
  children_numbers zero s = rw (keep_nil comes) refl
  children_numbers (suc n) s =
      let a = children_of waiting history plans n in
      let b = child_of waiting history plans n in
      let k = comers_of waiting plans n in
      let l = keep comes (number n ∷ []) in
      ap (λ (x : List ℕ). numbers_of (a ++ b) (length x)) (comers-more n) ∙ ap (numbers_of (a ++ b)) (length-append k l)
      ∙ joined_numbers a b (length k) (children-length n) (length l)
      ∙ ap₂ ◌++◌ (children_numbers n (λ i h. s i (omega arith))) (child_numbers n (s n (omega arith))) ∙ sym (comers-more n)

  pub children-count : (n : ℕ) → plan_count (children_of waiting history plans n) ≡ length (comers_of waiting plans n)
  children-count n = omega (arith, children-length n)

-- at most so many come
pub comers-few : (waiting plans : List ℕ) (n : ℕ) → length (comers_of waiting plans n) ≤ n
comers-few waiting plans n =
    let f : ℕ → Bool = λ p. not (has waiting p) in
    let l = list_below (λ i. get_or plans i 0) n in
    omega (arith, keep-length f l, tally_le f l, list_below-length (λ i. get_or plans i 0) n)

-- and all, where nobody waits
pub comers-all : (plans : List ℕ) (n : ℕ) → length (comers_of [] plans n) ≡ n
comers-all plans n =
    let f : ℕ → Bool = λ p. not (has [] p) in
    let l = list_below (λ i. get_or plans i 0) n in
    keep-length f l ∙ tally-same f (λ t. true) l (λ q m. ap not (has_nil q)) ∙ tally-all l ∙ list_below-length (λ i. get_or plans i 0) n

-- ---- their numbers differ, and none waits

keep-distinct : (f : ℕ → Bool) (l : List ℕ) → Distinct l → Distinct (keep f l)
keep-distinct f [] d = subst Distinct (sym (keep_nil f)) Nodup-nil
keep-distinct f (x ∷ l) d =
    let rest = keep-distinct f l (Nodup-cons.0 d).1 in
    by_bool (f x)
    (λ e. subst Distinct (sym (keep_yes f x l e)) (Nodup-cons.1 (λ m. ∥∥₁_elim m ⊥_prop (λ k. first-apart d (in_keep f l x k).0), rest)))
    (λ e. subst Distinct (sym (keep_no f x l e)) rest)

-- the first n of numbers that differ
take-distinct : (l : List ℕ) (n m : ℕ) → n ≤ m → Distinct (take m l) → Distinct (take n l)
take-distinct l n m h d =
    subst Distinct (take-take n m l h)
    (Nodup.of_append_left (drop n (take m l)) (subst Distinct (sym (take-append-drop n (take m l))) d))

-- numbers that wait, and behind them those that come of n different ones
pub joined-distinct : (waiting plans : List ℕ) (n m : ℕ) → n ≤ m → n ≤ length plans → Distinct waiting → Distinct (take m plans)
    → Distinct (waiting ++ comers_of waiting plans n)
joined-distinct waiting plans n m h room d e =
    let f : ℕ → Bool = λ p. not (has waiting p) in
    let l = list_below (λ i. get_or plans i 0) n in
    let differ : Distinct l = subst Distinct (sym (list_below_copy 0 plans n room)) (take-distinct plans n m h e) in
    distinct_append waiting (keep f l) d (keep-distinct f l differ)
    (λ a w c. true≢false (sym (in_has waiting a w) ∙ not-true _ (in_keep f l a c).1))
