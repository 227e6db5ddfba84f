-- What the fronts are of a pool whose dominance is a strict order: every plan in one front, none dominated from its own front or a later
-- one, each dominated from the front before its own, all within n rounds.
use Prim.Native.Nat.{ℕ, zero, suc, ◌+◌, ◌≤◌, ◌<◌, min}
use mathlib.Core.Path.{◌≡◌, refl, ap, sym, ◌∙◌}
use mathlib.Core.Bool.{Bool, true, false, not, ◌&&◌, ◌||◌, false≢true, true≢false}
use mathlib.Core.List.{[]}
use mathlib.Core.Logic.{◌⊎◌, inl, inr, ⊎_elim}
use native.Mathlib.Omega.{arith}
use borrow.Author.Tests.{eqb-false}
use lib.Dec.{eqb}
use lib.ListN.{length}
use Rattle.model.specs.Front.{front, listing}
use Rattle.model.specs.Lists.{one, count_below, join_below}
use Rattle.model.specs.Papers.Deb2002.{in_first, in_front}
use Rattle.list_laws.proofs.Below.{later, by_lt, neither_below}
use Rattle.list_laws.specs.Occ.{occ, Below, Exactly}
use Rattle.list_laws.proofs.Bools.{by_bool, no_pass, no_fail, and_right, and_not_left, and_no}
use Rattle.list_laws.proofs.Counts.{count_below_le, count_below_mono, count_below-less, count_below-all, all-count_below, some-count_below, none_count_below, left-count_below}
use Rattle.list_laws.proofs.Members.{occ_nil, occ-append, no_member, length-below, below_none, below-append, exactly-of}
use Rattle.front_laws.specs.Strict.{Strict}
use Rattle.front_laws.proofs.Rounds.{waiting, in_front-count, in_front_new, in_front-top, in_first-more, found}

-- ---- for any d

-- a plan of an earlier front is of an earlier front still, later on
pub in_first_later : (d : ℕ → ℕ → Bool) (n k j q : ℕ) → k ≤ j → in_first d n k q ≡ true → in_first d n j q ≡ true
in_first_later d n k j q h e = later (λ t. in_first d n t q ≡ true) (λ t. in_first-more d n t q) k j h e

-- so one of no earlier front was of none before
not_yet : (d : ℕ → ℕ → Bool) (n k j q : ℕ) → k ≤ j → in_first d n j q ≡ false → in_first d n k q ≡ false
not_yet d n k j q h e = no_pass (in_first d n k q) (λ y. false≢true (sym e ∙ in_first_later d n k j q h y))

-- none of the rest dominates a member of the paper's front k
pub in_front_undominated : (d : ℕ → ℕ → Bool) (n k q : ℕ) → in_front d n k q ≡ true → (p : ℕ) → p < n → in_first d n k p ≡ false → d p q ≡ false
unfolding waiting
in_front_undominated d n k q e p l y = rw y at (none_count_below (λ t. not (in_first d n k t) && d t q) n (in_front-top d n k q e) p l)

-- and it is of an earlier front from then on
pub in_front-first : (d : ℕ → ℕ → Bool) (n k q : ℕ) → in_front d n k q ≡ true → in_first d n (suc k) q ≡ true
unfolding in_first
in_front-first d n k q e = rw (in_front_new d n k q e, e)

-- no plan is in two fronts
earlier : (d : ℕ → ℕ → Bool) (n k j q : ℕ) → in_front d n k q ≡ true → in_front d n j q ≡ true → k < j → ⊥
earlier d n k j q a b l = false≢true (sym (in_front_new d n j q b) ∙ in_first_later d n (suc k) j q l (in_front-first d n k q a))

pub one-front : (d : ℕ → ℕ → Bool) (n k j q : ℕ) → in_front d n k q ≡ true → in_front d n j q ≡ true → k ≡ j
one-front d n k j q a b = neither_below k j (earlier d n k j q a b) (earlier d n j k q b a)

-- the first k fronts list each plan of theirs once, and no other
pub listing-below : (d : ℕ → ℕ → Bool) (n k : ℕ) → Below n (listing d n k)
unfolding join_below
listing-below d n zero = below_none n
listing-below d n (suc k) = below-append n (listing d n k) (front d n k) (listing-below d n k) (found d n k).below

pub listing_exact : (d : ℕ → ℕ → Bool) (n k q : ℕ) → q < n → occ q (listing d n k) ≡ one (in_first d n k q)
unfolding join_below in_first
listing_exact d n zero q l = occ_nil q
listing_exact d n (suc k) q l =
    let s = occ-append q (listing d n k) (front d n k) in
    let i = listing_exact d n k q l in
    let f = (found d n k).exact q l in
    omega (arith, s, i, f, either (in_first d n k q) (in_front d n k q) (in_front_new d n k q))
  where
    either : (a x : Bool) → (x ≡ true → a ≡ false) → one (a || x) ≡ one a + one x
    either true true h = absurd (true≢false (h refl))
    either true false h = refl
    either false true h = refl
    either false false h = refl

pub listing-length : (d : ℕ → ℕ → Bool) (n k : ℕ) → length (listing d n k) ≡ count_below (in_first d n k) n
listing-length d n k = length-below (in_first d n k) n (listing d n k) (listing-below d n k) (listing_exact d n k)

-- so they are n where each plan is in one of them, and at most n
pub listing_full : (d : ℕ → ℕ → Bool) (n k : ℕ) → ((q : ℕ) → q < n → in_first d n k q ≡ true) → length (listing d n k) ≡ n
listing_full d n k h = listing-length d n k ∙ count_below-all (in_first d n k) n h

pub listing-room : (d : ℕ → ℕ → Bool) (n k : ℕ) → length (listing d n k) ≤ n
listing-room d n k = omega (arith, listing-length d n k, count_below_le (in_first d n k) n)

-- the plans of front k are those of the paper's front k, and the listing's those of its first k fronts: each once, and no other
pub front-exactly : (d : ℕ → ℕ → Bool) (n k : ℕ) → Exactly (in_front d n k) n (front d n k)
front-exactly d n k = exactly-of (in_front d n k) n (front d n k) (found d n k).below (found d n k).exact

pub listing-exactly : (d : ℕ → ℕ → Bool) (n k : ℕ) → Exactly (in_first d n k) n (listing d n k)
listing-exactly d n k = exactly-of (in_first d n k) n (listing d n k) (listing-below d n k) (listing_exact d n k)

-- T3. no member of a front is dominated by a member of the same or of a later front
pub not_dominated : (d : ℕ → ℕ → Bool) (n k j q p : ℕ) → k ≤ j → p < n → in_front d n k q ≡ true → in_front d n j p ≡ true → d p q ≡ false
not_dominated d n k j q p h l a b =
    in_front_undominated d n k q a p l (not_yet d n k j p h (in_front_new d n j p b))

-- ---- for a strict order

module _ (d : ℕ → ℕ → Bool) (n : ℕ) (s : Strict d n) where
  -- a dominator in the rest has fewer dominators in the rest
  fewer : (k p q : ℕ) → p < n → q < n → (not (in_first d n k p) && d p q) ≡ true → waiting d n k p < waiting d n k q
  unfolding waiting
  fewer k p q lp lq e = count_below-less (λ t. not (in_first d n k t) && d t p) (λ t. not (in_first d n k t) && d t q) n p
      (λ t l v. by_bool (in_first d n k t) (λ y. absurd (false≢true (rw y at v)))
      (λ y. rw y (s.transitive t p q l lp lq (rw y at v) (and_right (not (in_first d n k p)) (d p q) e))))
      lp (and_no (not (in_first d n k p)) (d p p) (s.irreflexive p lp)) e

  -- whom a plan dominates, it and its dominators dominate
  from-above : (t p q : ℕ) → t < n → p < n → q < n → d p q ≡ true → (t ≡ p) ⊎ (d t p ≡ true) → d t q ≡ true
  from-above t p q lt lp lq g (inl e) = ap (λ x. d x q) e ∙ g
  from-above t p q lt lp lq g (inr e) = s.transitive t p q lt lp lq e g

  -- from any plan of the rest the way up leads to an undominated one
  climb : (fuel k q : ℕ) → q < n → in_first d n k q ≡ false → waiting d n k q ≤ fuel
      → (p : ℕ) × (p < n) × (in_front d n k p ≡ true) × ((p ≡ q) ⊎ (d p q ≡ true))
  unfolding waiting
  climb zero k q l y h = (q, l, in_front-count d n k q ∙ rw (y, top) refl, inl refl)
    where
      top : waiting d n k q ≡ 0
      top = omega arith
  climb (suc fuel) k q l y h = by_bool (eqb (waiting d n k q) 0)
      (λ z. (q, l, in_front-count d n k q ∙ rw (y, z) refl, inl refl))
      (λ z. let r = some-count_below (λ p. not (in_first d n k p) && d p q) n (omega (arith, eqb-false (waiting d n k q) 0 z)) in
      let p = r.0 in
      let f = fewer k p q r.1 l r.2 in
      let y' = and_not_left (in_first d n k p) (d p q) r.2 in
      let g = and_right (not (in_first d n k p)) (d p q) r.2 in
      let t = climb fuel k p r.1 y' (omega arith) in
      (t.0, t.1, t.2, inr (from-above t.0 p q t.1 r.1 l g t.3)))

  -- so a plan of the rest is in the front, or a member of the front dominates it
  pub in_or_under : (k q : ℕ) → q < n → in_first d n k q ≡ false
      → (p : ℕ) × (p < n) × (in_front d n k p ≡ true) × ((p ≡ q) ⊎ (d p q ≡ true))
  in_or_under k q l y = climb (waiting d n k q) k q l y (omega arith)

  -- T4. each member of front k + 1 is dominated by some member of front k
  pub under-front : (k q : ℕ) → q < n → in_front d n (suc k) q ≡ true → (p : ℕ) × (p < n) × (in_front d n k p ≡ true) × (d p q ≡ true)
  under-front k q l e =
      let new = in_front_new d n (suc k) q e in
      let t = in_or_under k q l (not_yet d n k (suc k) q (omega arith) new) in (
        t.0,
        t.1,
        t.2,
        ⊎_elim (λ v. absurd (false≢true (sym new ∙ ap (in_first d n (suc k)) (sym v) ∙ in_front-first d n k t.0 t.2))) (λ v. v) t.3,
      )

  -- while a plan is left, a round takes one more
  grows : (k : ℕ) → min k n ≤ count_below (in_first d n k) n
  grows zero = omega arith
  grows (suc k) =
      let i = grows k in
      let more = count_below_mono (in_first d n k) (in_first d n (suc k)) n (λ t l. in_first-more d n k t) in
      by_lt (count_below (in_first d n k) n) n
      (λ less. let r = left-count_below (in_first d n k) n less in
      let t = in_or_under k r.0 r.1 r.2 in
      let up = count_below-less (in_first d n k) (in_first d n (suc k)) n t.0 (λ v l. in_first-more d n k v) t.1
      (in_front_new d n k t.0 t.2) (in_front-first d n k t.0 t.2) in
      omega arith)
      (λ full. omega arith)

  -- T5. after n rounds every plan has its front
  pub all-in_first : (q : ℕ) → q < n → in_first d n n q ≡ true
  all-in_first = all-count_below (in_first d n n) n (omega (arith, grows n))

  -- once a front is empty every plan has its front
  pub empty_in_first : (k : ℕ) → front d n k ≡ [] → (q : ℕ) → q < n → in_first d n k q ≡ true
  empty_in_first k e q l = no_fail (in_first d n k q)
      (λ y. let t = in_or_under k q l y in
      let o = (found d n k).exact t.0 t.1 in
      let z = ap (occ t.0) e ∙ occ_nil t.0 in
      omega (arith, ap one t.2))

  -- front n is empty
  pub ended : front d n n ≡ []
  ended = no_member (front d n n) (λ q m. let f = front-exactly d n n in false≢true (sym (in_front_new d n n q (f.passes q m)) ∙ all-in_first q (f.below q m)))

  pub listing-whole : (k : ℕ) → front d n k ≡ [] → length (listing d n k) ≡ n
  listing-whole k e = listing_full d n k (empty_in_first k e)
