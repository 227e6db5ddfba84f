-- The fronts that the listing finds are the paper's, front for front, each member once.
use Prim.Native.Nat.{ℕ, zero, suc, ◌+◌, ◌≤◌, ◌<◌}
use mathlib.Core.Path.{◌≡◌, refl, ap, sym, ◌∙◌}
use mathlib.Core.Bool.{Bool, true, false, not, ◌&&◌, ◌||◌, not-not, false≢true}
use native.Mathlib.Omega.{arith}
use borrow.Author.Tests.{eq-eqb, ne_eqb, eqb-true, eqb-false, lt-ltb}
use lib.Dec.{eqb}
use Rattle.model.specs.Front.{first_round, next_round, round, front}
use Rattle.model.specs.Lists.{one, any_below, count_below, tally}
use Rattle.model.specs.Papers.Deb2002.{undominated_of_rest, in_first, in_front}
use Rattle.list_laws.specs.Occ.{occ, Below}
use Rattle.list_laws.proofs.Below.{later}
use Rattle.list_laws.proofs.Bools.{by_bool, and_not_left}
use Rattle.list_laws.proofs.Counts.{any_below-count, count_below_parts, count_below_mono}
use Rattle.list_laws.proofs.Kept.{keep_below-below, keep_below-occ}
use Rattle.list_laws.proofs.Members.{tally-below}
use Rattle.front_laws.proofs.Lowering.{lower_all-count, freed_all-below, met, met_none, occ-freed_all}

-- how many plans of the rest dominate q, as front k is looked for
unfoldable pub waiting : (ℕ → ℕ → Bool) → ℕ → ℕ → ℕ → ℕ
waiting d n k q = count_below (λ p. not (in_first d n k p) && d p q) n

-- q is in the paper's front k just where it is of the rest and none of the rest dominates it, said by the count
pub in_front-count : (d : ℕ → ℕ → Bool) (n k q : ℕ) → in_front d n k q ≡ not (in_first d n k q) && eqb (waiting d n k q) 0
unfolding undominated_of_rest waiting
in_front-count d n k q =
    let e = any_below-count (λ p. not (in_first d n k p) && d p q) n in
    rw (e, not-not)

-- so such a plan is of no front before, and none of the rest dominates it
pub in_front_new : (d : ℕ → ℕ → Bool) (n k q : ℕ) → in_front d n k q ≡ true → in_first d n k q ≡ false
unfolding undominated_of_rest
in_front_new d n k q e = and_not_left (in_first d n k q) _ e

pub in_front-top : (d : ℕ → ℕ → Bool) (n k q : ℕ) → in_front d n k q ≡ true → waiting d n k q ≡ 0
in_front-top d n k q e =
    let y = in_front_new d n k q e in
    eqb-true (waiting d n k q) 0 (rw y at (sym (in_front-count d n k q) ∙ e))

-- a plan of an earlier front is in one of them
pub in_first-front : (d : ℕ → ℕ → Bool) (n k q : ℕ) → in_first d n k q ≡ true → (j : ℕ) × (j < k) × (in_front d n j q ≡ true)
unfolding in_first
in_first-front d n zero q e = absurd (false≢true e)
in_first-front d n (suc k) q e = by_bool (in_first d n k q)
    (λ y. let r = in_first-front d n k q y in (r.0, omega (arith, r.1), r.2))
    (λ y. (k, omega arith, rw y at e))

-- a plan of an earlier front stays one
pub in_first-more : (d : ℕ → ℕ → Bool) (n k q : ℕ) → in_first d n k q ≡ true → in_first d n (suc k) q ≡ true
unfolding in_first
in_first-more d n k q e = rw e

rest-less : (d : ℕ → ℕ → Bool) (n k q : ℕ) → waiting d n (suc k) q ≤ waiting d n k q
unfolding waiting in_first
rest-less d n k q = count_below_mono _ _ n (λ t l. fewer (in_first d n k t) (undominated_of_rest d n (in_first d n k) t) (d t q))
  where
    fewer : (a x c : Bool) → (not (a || x) && c) ≡ true → (not a && c) ≡ true
    fewer true x c e = e
    fewer false true c e = absurd (false≢true e)
    fewer false false c e = e

-- no plan of the rest dominates one of an earlier front
in_first_none : (d : ℕ → ℕ → Bool) (n k q : ℕ) → in_first d n k q ≡ true → waiting d n k q ≡ 0
in_first_none d n k q e =
    let f = in_first-front d n k q e in
    later (λ t. waiting d n t q ≡ 0) (λ t z. omega (arith, rest-less d n t q)) f.0 k (omega (arith, f.1)) (in_front-top d n f.0 q f.2)

-- what the listing has as round k begins
pub record Found (d : ℕ → ℕ → Bool) (n k : ℕ) : Type 0 where
  pub below : Below n (front d n k)
  pub exact : (q : ℕ) → q < n → occ q (front d n k) ≡ one (in_front d n k q)
  pub counted : (q : ℕ) → q < n → (round d n k).counts q ≡ waiting d n k q

-- the dominators in the rest are those in front k and those in the rest after it
waiting-split : (d : ℕ → ℕ → Bool) (n k q : ℕ) → Found d n k → waiting d n k q ≡ waiting d n (suc k) q + tally (λ p. d p q) (front d n k)
unfolding waiting in_first undominated_of_rest
waiting-split d n k q h =
    count_below_parts (λ t. not (in_first d n k t) && d t q) (λ t. not (in_first d n k t || in_front d n k t) && d t q) (λ t. in_front d n k t && d t q) n
    (λ t l. parts (in_first d n k t) (not (any_below (λ p. not (in_first d n k p) && d p t) n)) (d t q))
    ∙ ap (λ c. waiting d n (suc k) q + c) (sym (tally-below (λ p. d p q) (in_front d n k) n (front d n k) h.below h.exact))
  where
    parts : (a y c : Bool) → one (not a && c) ≡ one (not (a || (not a && y)) && c) + one ((not a && y) && c)
    parts true y c = omega arith
    parts false true c = omega arith
    parts false false c = omega arith

-- the first round
found_first : (d : ℕ → ℕ → Bool) (n : ℕ) → Found d n 0
unfolding round first_round next_round waiting in_first
found_first d n = record {
  below = keep_below-below _ n;
  exact = λ q h. keep_below-occ _ n q h ∙ ap one (sym (in_front-count d n 0 q));
  counted = λ q h. refl;
}

same_left : (w v x : ℕ) → w ≡ v + x → eqb w x ≡ eqb v 0
same_left w v x split = by_bool (eqb v 0)
    (λ e. let z = eqb-true v 0 e in eq-eqb w x (omega arith) ∙ sym e)
    (λ e. ne_eqb w x (λ y. eqb-false v 0 e (omega arith)) ∙ sym e)

-- whose count is met in round k is in the paper's front k + 1
met-in_front : (d : ℕ → ℕ → Bool) (n k q x : ℕ) → waiting d n k q ≡ waiting d n (suc k) q + x
    → met (waiting d n k q) x ≡ in_front d n (suc k) q
unfolding in_first
met-in_front d n k q x split =
    let w = waiting d n k q in
    let v = waiting d n (suc k) q in
    by_bool (eqb w 0)
    (λ z. let none = eqb-true w 0 z in
    let old : in_first d n (suc k) q ≡ true =
    by_bool (in_first d n k q) (in_first-more d n k q) (λ y. rw (y, in_front-count d n k q, y, z)) in
    met_none w x none ∙ sym (in_front-count d n (suc k) q ∙ ap (λ b. not b && eqb v 0) old))
    (λ z. let some = eqb-false w 0 z in
    let new : in_first d n (suc k) q ≡ false =
    by_bool (in_first d n k q) (λ y. absurd (some (in_first_none d n k q y))) (λ y. rw (y, in_front-count d n k q, y, z)) in
    ap (λ b. b && eqb w x) (lt-ltb 0 w (omega (arith, some)))
    ∙ same_left w v x split
    ∙ sym (in_front-count d n (suc k) q ∙ ap (λ b. not b && eqb v 0) new))

-- a round leads to the next
found-more : (d : ℕ → ℕ → Bool) (n k : ℕ) → Found d n k → Found d n (suc k)
unfolding round first_round next_round
found-more d n k h = record {
  below = freed_all-below d n (front d n k) (round d n k).counts;
  exact = λ q l. let s = waiting-split d n k q h in
      let c = h.counted q l in
      let x = tally (λ p. d p q) (front d n k) in
      occ-freed_all d n (front d n k) (round d n k).counts q l (omega arith)
      ∙ ap (λ v. one (met v x)) c ∙ ap one (met-in_front d n k q x s);
  counted = λ q l. let s = waiting-split d n k q h in
      let c = h.counted q l in
      let v = lower_all-count d (front d n k) (round d n k).counts q in
      omega arith;
}

-- T1. front k of the listing has exactly the members of the paper's front k, each once
pub found : (d : ℕ → ℕ → Bool) (n k : ℕ) → Found d n k
found d n zero = found_first d n
found d n (suc k) = found-more d n k (found d n k)

-- the members of front k lower no count below zero
pub fair : (d : ℕ → ℕ → Bool) (n k q : ℕ) → q < n → tally (λ p. d p q) (front d n k) ≤ (round d n k).counts q
fair d n k q l = omega (arith, waiting-split d n k q (found d n k), (found d n k).counted q l)
