-- The cut of a sorted pool is the model's: the order up to it is the whole fronts, and what follows up to its end the split front.
use Prim.Native.Nat.{ℕ, zero, suc, ◌+◌, ◌-◌, ◌≤◌, ◌<◌}
use mathlib.Core.Path.{◌≡◌, refl, ap, sym, subst, ◌∙◌}
use mathlib.Core.Bool.{Bool, true, false, cond, ◌&&◌, true≢false}
use mathlib.Core.Logic.{⊎_elim}
use mathlib.Core.List.{List, [], ◌++◌, append_assoc}
use native.Mathlib.Nat.{eq-or-lt_of_le}
use native.Mathlib.Omega.{arith}
use borrow.Author.Tests.{lt-ltb, le-ltb, ltb-true, ltb-false}
use lib.Dec.{ltb}
use lib.ListN.{length, get_or, take, drop, take-append-drop}
use lib.Seq.{take_at, drop_at}
use Rattle.model.specs.Lists.{first_below}
use Rattle.model.specs.Front.{front, listing}
use Rattle.model.specs.Association.{Request, dominance}
use Rattle.model.specs.Kept.{whole_fronts, before, is_split, split_front, exceeds_size}
use Rattle.list_laws.proofs.Rows.{join_below-fits}
use Rattle.list_laws.proofs.Below.{by_lt}
use Rattle.list_laws.proofs.Bools.{by_bool, and_left, and_right, and_fails, and_no}
use Rattle.list_laws.proofs.First.{first_below_le, first_below_nowhere, first_below-at, first_below-passes, first_below-before, first_below-same}
use Rattle.front_laws.specs.Strict.{Strict}
use Rattle.front_laws.proofs.Order.{listing-room, listing-whole}
use Rattle.front_laws.proofs.Theorems.{listing-length-n}
use Rattle.front_laws.specs.Post.{Sorted}
use Rattle.front_laws.proofs.Places.{front_count_empty, sorted_few, sorted_end, sorted_fronts}
use Rattle.front_laws.proofs.Listings.{listing_none, listing-more, listing_grows}
use Rattle.front_cut.specs.declared.Cut.{Cut}
use Rattle.front_cut.specs.Fitting.{fitting, start_of, cut_of}
use Rattle.front_cut.proofs.Fitting.{fitting_le, cut_by}

-- ---- the cut

-- What a selection needs of a cut of the order: `listed` and `waiting` are the parts `order[..whole]` and `order[whole..end]`.
pub record CutsAt (r : Request) (order : List ℕ) (c : Cut) : Type 0 where
  pub whole : c.whole ≡ length (before r)
  pub split : c.split ≡ is_split r
  pub listed : take c.whole order ≡ before r
  pub waiting : is_split r ≡ true → take (c.end - c.whole) (drop c.whole order) ≡ split_front r
  -- the whole fronts fit, the split front exceeds the size, and the cut lies within the pool
  pub fits : c.whole ≤ r.size
  pub exceeds : is_split r ≡ true → r.size < c.end
  pub ahead : c.whole ≤ c.end
  pub within : c.end ≤ r.count

module _ (r : Request) (strict : Strict (dominance r) r.count) (o₀ o k₀ k e₀ e : List ℕ) (x : ℕ)
    (s : Sorted (dominance r) r.count o₀ o k₀ k e₀ e x) where
  abbrev d : ℕ → ℕ → Bool
  d = dominance r

  abbrev n : ℕ
  n = r.count

  abbrev size : ℕ
  size = r.size

  -- ---- the ends

  few : x ≤ n
  few = sorted_few d n o₀ o k₀ k e₀ e x s

  last_empty : front d n x ≡ []
  last_empty = ap (front d n) s.result ∙ front_count_empty d n strict

  end_at : (t : ℕ) → t < x → get_or e t 0 ≡ length (listing d n (suc t))
  end_at = sorted_end d n o₀ o k₀ k e₀ e x s

  start-at : (t : ℕ) → t ≤ x → start_of e t ≡ length (listing d n t)
  start-at zero l = sym (listing_none d n)
  start-at (suc t) l = end_at t l

  fitting-first : fitting e x size ≡ first_below (exceeds_size r) x
  unfolding fitting
  fitting-first = first_below-same _ _ x (λ t l. ap (ltb size) (end_at t l))

  -- ---- the fronts that fit are the model's whole fronts

  abbrev w : ℕ
  w = fitting e x size

  w_le : w ≤ x
  w_le = fitting_le e x size

  -- front w exceeds the size where there is one, and those before it do not
  w-passes : w < x → exceeds_size r w ≡ true
  w-passes l = ap (exceeds_size r) fitting-first ∙ first_below-passes (exceeds_size r) x (omega (arith, fitting-first))

  w-before : (t : ℕ) → t < w → exceeds_size r t ≡ false
  w-before t l = first_below-before (exceeds_size r) x t (omega (arith, fitting-first))

  start_fits : start_of e w ≤ size
  start_fits = omega (arith, start-at w w_le, join_below-fits (front d n) size w w-before)

  whole-some : w < x → whole_fronts r ≡ w
  unfolding whole_fronts
  whole-some l = first_below-at (exceeds_size r) n w (omega (arith, few)) (w-passes l) w-before

  -- where all fit, the listing grows no more and fits too
  all_fit : w ≡ x → (t : ℕ) → t < n → exceeds_size r t ≡ false
  all_fit a t l = by_lt t x
      (λ v. w-before t (omega arith))
      (λ v. le-ltb size (length (listing d n (suc t)))
      (omega (arith, listing-room d n (suc t), listing-whole d n strict x last_empty, start_fits, start-at x (omega arith), ap (start_of e) a)))

  whole-all : w ≡ x → whole_fronts r ≡ n
  unfolding whole_fronts
  whole-all a = first_below_nowhere (exceeds_size r) n (all_fit a)

  whole_le : whole_fronts r ≤ n
  unfolding whole_fronts
  whole_le = first_below_le (exceeds_size r) n

  -- front w starts where the whole fronts end
  start-before : start_of e w ≡ length (before r)
  unfolding before
  start-before = ⊎_elim
      (λ a. start-at w w_le
      ∙ omega (
        arith,
        ap (λ t. length (listing d n t)) a,
        listing-whole d n strict x last_empty,
        ap (λ t. length (listing d n t)) (whole-all a),
        listing-length-n d n strict,
      ))
      (λ l. start-at w w_le ∙ ap (λ t. length (listing d n t)) (sym (whole-some l)))
      (eq-or-lt_of_le w_le)

  -- ---- the order

  order-take : (t : ℕ) → t ≤ n → take (length (listing d n t)) o ≡ listing d n t
  order-take = sorted_fronts d n o₀ o k₀ k e₀ e x s strict

  order-listed : take (start_of e w) o ≡ before r
  unfolding before
  order-listed = ap (λ t. take t o) start-before ∙ order-take (whole_fronts r) whole_le

  -- ---- where a front is split

  module _ (l : w < x) (h : start_of e w < size) where
    inside : whole_fronts r < n
    inside = omega (arith, whole-some l, few)

    is_split_lem : is_split r ≡ true
    unfolding is_split
    is_split_lem = rw (lt-ltb (whole_fronts r) n inside, lt-ltb (length (before r)) size (omega (arith, start-before)))

    split_end : get_or e w 0 ≡ length (before r) + length (split_front r)
    unfolding before split_front
    split_end = end_at w l ∙ listing_grows d n w ∙ ap (λ t. length (listing d n t) + length (front d n t)) (sym (whole-some l))

    -- the order is the whole fronts, the split front, and the rest
    order_parts : o ≡ before r ++ (split_front r ++ drop (length (listing d n (suc (whole_fronts r)))) o)
    unfolding before split_front
    order_parts =
        let b = length (listing d n (suc (whole_fronts r))) in
        sym (take-append-drop b o) ∙ ap (λ t. t ++ drop b o) (order-take (suc (whole_fronts r)) inside ∙ listing-more d n (whole_fronts r))
        ∙ append_assoc (listing d n (whole_fronts r)) (front d n (whole_fronts r)) (drop b o)

    order-waiting : take (get_or e w 0 - start_of e w) (drop (start_of e w) o) ≡ split_front r
    order-waiting =
        let rest = drop (length (listing d n (suc (whole_fronts r)))) o in
        ap (take (get_or e w 0 - start_of e w)) (ap (drop (start_of e w)) order_parts ∙ drop_at (before r) (split_front r ++ rest) (start_of e w) (sym start-before))
        ∙ take_at (split_front r) rest (get_or e w 0 - start_of e w) (omega (arith, split_end, start-before))

    cuts_split : CutsAt r o (record { whole = start_of e w; end = get_or e w 0; split = true })
    cuts_split = record {
      whole = start-before;
      split = sym is_split_lem;
      listed = order-listed;
      waiting = λ v. order-waiting;
      fits = start_fits;
      exceeds = λ v. omega (arith, end_at w l, ltb-true size (length (listing d n (suc w))) (w-passes l));
      ahead = omega (arith, split_end, start-before);
      within = omega (arith, end_at w l, listing-room d n (suc w));
    }

  -- ---- where none is

  not-split : is_split r ≡ false → CutsAt r o (record { whole = start_of e w; end = start_of e w; split = false })
  not-split v = record {
    whole = start-before;
    split = sym v;
    listed = order-listed;
    waiting = λ u. absurd (true≢false (sym u ∙ v));
    fits = start_fits;
    exceeds = λ u. absurd (true≢false (sym u ∙ v));
    ahead = omega arith;
    within = omega (arith, start-at w w_le, listing-room d n w);
  }

  -- the whole fronts fill the size
  filled-not-split : size ≤ start_of e w → is_split r ≡ false
  unfolding is_split
  filled-not-split h = and_no (ltb (whole_fronts r) n) (ltb (length (before r)) size) (le-ltb (length (before r)) size (omega (arith, start-before)))

  -- or there is no front after them
  all-not-split : w ≡ x → is_split r ≡ false
  unfolding is_split
  all-not-split a = rw (le-ltb (whole_fronts r) n (omega (arith, whole-all a)))

  -- THE LAW: the cut that `split_at` gives from the ends of the sorted fronts
  pub cut-request : CutsAt r o (cut_of e x r.size)
  cut-request = by_bool (ltb w x && ltb (start_of e w) size)
      (λ v. subst (CutsAt r o) (told true v)
      (cuts_split (ltb-true w x (and_left _ _ v)) (ltb-true (start_of e w) size (and_right (ltb w x) _ v))))
      (λ v. subst (CutsAt r o) (told false v) (not-split (⊎_elim
      all-not-split
      (λ l. filled-not-split (ltb-false (start_of e w) size (and_fails _ _ v (lt-ltb w x l))))
      (eq-or-lt_of_le w_le))))
    where
      told : (b : Bool) → (ltb w x && ltb (start_of e w) size) ≡ b → record { whole = start_of e w; end = cond b (get_or e w 0) (start_of e w); split = b } ≡ cut_of e x size
      told = cut_by e x size w (start_of e w) refl refl
