-- How many plans the whole fronts have beside the size wanted, where a front is split and where none is.
use Prim.Native.Nat.{ℕ, suc, ◌+◌, ◌-◌, ◌≤◌, ◌<◌}
use mathlib.Core.Path.{◌≡◌, sym, ap, ◌∙◌}
use mathlib.Core.Logic.{◌⊎◌, inl, inr, ⊎_elim}
use mathlib.Core.Bool.{true, false}
use mathlib.Core.List.{◌++◌, append-nil}
use native.Mathlib.Omega.{arith}
use lib.Dec.{ltb}
use lib.ListN.{length}
use borrow.Author.Tests.{ltb-true, ltb-false}
use Rattle.model.specs.Front.{front, listing}
use Rattle.model.specs.Association.{Request, dominance}
use Rattle.model.specs.Draw.{in_turn}
use Rattle.model.specs.Kept.{whole_fronts, before, is_split, split_front, filled, selected_split, selected_whole, selected, exceeds_size}
use Rattle.model.specs.Demand3.{size_of_first, Split}
use Rattle.list_laws.proofs.Below.{by_lt, neither_below}
use Rattle.list_laws.proofs.Bools.{by_bool, and_left, and_right}
use Rattle.list_laws.proofs.First.{first_below_le, first_below-passes}
use Rattle.list_laws.proofs.Rows.{join_below-up}
use Rattle.front_laws.specs.Strict.{Strict}
use Rattle.front_laws.proofs.Listings.{listing_grows}
use Rattle.front_laws.proofs.Order.{listing-length, listing-room}
use Rattle.front_laws.proofs.Theorems.{listing-length-n}
use Rattle.niching_laws.proofs.KeptLength.{before_le}

module _ (r : Request) where
  -- the size of the first k fronts
  abbrev len : ℕ → ℕ
  len k = length (listing (dominance r) r.count k)

  pub size_of_len : (k : ℕ) → size_of_first r k ≡ len k
  size_of_len k = sym (listing-length (dominance r) r.count k)

  -- with the front after them, if there is one, they exceed the size
  next_exceeds : whole_fronts r < r.count → r.size < length (before r) + length (split_front r)
  unfolding before split_front whole_fronts
  next_exceeds h =
      omega (arith, listing_grows (dominance r) r.count (whole_fronts r), ltb-true r.size (len (suc (whole_fronts r))) (first_below-passes (exceeds_size r) r.count h))

  -- none of the whole fronts is split
  whole-not : (k : ℕ) → Split r k → k < whole_fronts r → ⊥
  unfolding before
  whole-not k s h = omega (arith, before_le r, size_of_len (suc k), s.exceed, join_below-up (front (dominance r) r.count) (suc k) (whole_fronts r) h)

  -- where a front is split
  module _ (split : is_split r ≡ true) where
    split-inside : whole_fronts r < r.count
    unfolding is_split
    split-inside = ltb-true (whole_fronts r) r.count (and_left (ltb (whole_fronts r) r.count) (ltb (length (before r)) r.size) split)

    pub split-short : length (before r) < r.size
    unfolding is_split
    split-short = ltb-true (length (before r)) r.size (and_right (ltb (whole_fronts r) r.count) (ltb (length (before r)) r.size) split)

    -- it has more plans than there are open places
    pub split-room : r.size - length (before r) ≤ length (split_front r)
    split-room = omega (arith, next_exceeds split-inside)

    -- and the pool has more than the size
    pub split-many : r.size < r.count
    unfolding before split_front
    split-many = omega (
      arith,
      next_exceeds split-inside,
      listing_grows (dominance r) r.count (whole_fronts r),
      listing-room (dominance r) r.count (suc (whole_fronts r)),
    )

    pub split-kept : (selected r).kept ≡ before r ++ (filled r).value
    unfolding selected selected_split
    split-kept = rw split

    -- and no other front is
    pub split_only : (k : ℕ) → Split r k → k ≡ whole_fronts r
    unfolding before split_front
    split_only k s = neither_below k (whole_fronts r) (whole-not k s)
        (λ l. omega (
          arith,
          next_exceeds split-inside,
          listing_grows (dominance r) r.count (whole_fronts r),
          join_below-up (front (dominance r) r.count) (suc (whole_fronts r)) k l,
          size_of_len k,
          s.fall_short,
        ))

  -- where none is
  module _ (strict : Strict (dominance r) r.count) (whole : is_split r ≡ false) where
    -- the whole fronts fill the size, or are the pool
    pub whole-reach : (length (before r) ≡ r.size) ⊎ (length (before r) ≡ r.count)
    unfolding is_split before whole_fronts
    whole-reach = by_bool (ltb (whole_fronts r) r.count)
        (λ e. inl (omega (arith, before_le r, ltb-false (len (whole_fronts r)) r.size (rw e at whole))))
        (λ e. let last : whole_fronts r ≡ r.count = last_one (ltb-false (whole_fronts r) r.count e) in
        inr (ap len last ∙ listing-length-n (dominance r) r.count strict))
      where
        last_one : r.count ≤ whole_fronts r → whole_fronts r ≡ r.count
        last_one h = omega (arith, first_below_le (exceeds_size r) r.count)

    -- so the front after them cannot exceed it
    pub whole_none : (k : ℕ) → Split r k → ⊥
    unfolding before
    whole_none k s = by_lt k (whole_fronts r) (whole-not k s)
        (λ l. let more = join_below-up (front (dominance r) r.count) (whole_fronts r) k l in
        ⊎_elim (λ e. omega (arith, size_of_len k, s.fall_short))
        (λ e. omega (arith, before_le r, size_of_len (suc k), listing-room (dominance r) r.count (suc k), s.exceed)) whole-reach)

    -- from a pool of at least the size
    module _ (enough : r.size ≤ r.count) where
      pub whole_fill : length (before r) ≡ r.size
      whole_fill = ⊎_elim (λ e. e) (λ e. omega (arith, before_le r)) whole-reach

      pub whole-kept : (selected r).kept ≡ before r
      unfolding selected selected_whole in_turn
      whole-kept = rw (whole, none) (append-nil (before r))
        where
          none : r.size - length (before r) ≡ 0
          none = omega (arith, whole_fill)
