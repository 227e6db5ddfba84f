-- The turn of the loop over the fronts: the order holds the first k + 1 fronts, the counts and ranks are those of round k.
use Prim.Native.Nat.{ℕ, suc, ◌+◌, ◌≤◌, ◌<◌}
use mathlib.Core.Path.{◌≡◌, refl, ap, ap₂, sym, ◌∙◌}
use mathlib.Core.Bool.{Bool, false}
use mathlib.Core.Logic.{⊎_elim}
use mathlib.Core.List.{List, [], ◌++◌}
use native.Mathlib.Nat.{eq-or-lt_of_le}
use native.Mathlib.Numerals.{add-one}
use native.Mathlib.Omega.{arith}
use borrow.Author.Count.{below_more}
use borrow.Author.Tests.{eq-eqb, ne_eqb}
use lib.Dec.{eqb}
use lib.ListN.{length, get_or, set, take, drop}
use lib.Seq.{sets, slice, drop_at}
use Rattle.model.specs.Front.{lower_all, freed_all, first_round, next_round, round, front, listing}
use Rattle.model.specs.Lists.{first_below, keep_below, list_below, over, tally, join_below}
use Rattle.list_laws.specs.Put.{Picked}
use Rattle.list_laws.proofs.Built.{list_below-same, over-length, over-take, over-drop, over-at, over_none, over-size, over-set, over-front, over_run, drop_later}
use Rattle.list_laws.proofs.First.{first_below_nowhere, first_below-at, first_below-same}
use Rattle.list_laws.proofs.Kept.{keep_below-same}
use Rattle.list_laws.proofs.Members.{get_d_in, empty_of}
use Rattle.front_laws.specs.Ranks.{mark, ranked}
use Rattle.front_laws.specs.Strict.{Strict}
use Rattle.front_laws.proofs.Empty.{empty_later, first_empty, listing-all}
use Rattle.front_laws.proofs.Lowering.{lower_all-same, freed_all-same}
use Rattle.front_laws.proofs.Order.{listing-below, listing-room}
use Rattle.front_laws.proofs.Ranks.{ranked-length}
use Rattle.front_laws.proofs.Rounds.{fair}
use Rattle.front_laws.proofs.Same.{Agree, front_same, listing-same, front_list-same}
use Rattle.front_laws.proofs.Theorems.{ranked-front_list, listing-length-n}
use Rattle.front_laws.proofs.Listings.{listing-more, listing_grows}
use Rattle.front_laws.specs.Post.{of, Counted, Ready, Passed, no_members, front_count, front_end, Sorted}

-- `ends` holds the ends of the fronts before front k; it came as e₀, the order as o₀ and the ranks as r₀
pub record Sorting (d : ℕ → ℕ → Bool) (n : ℕ) (o₀ r₀ e₀ : List ℕ) (k start end : ℕ) (cs o r ends : List ℕ) : Type 0 where
  pub counted : (t : ℕ) → t < n → get_or cs t 0 ≡ (round d n k).counts t
  pub starts : start ≡ length (listing d n k)
  pub stops : end ≡ front_end d n k
  pub order : o ≡ over (listing d n (suc k)) o₀
  pub ranks : r ≡ ranked d n k r₀
  pub ended : ends ≡ over (list_below (front_end d n) k) e₀
  pub filled : (j : ℕ) → j < k → front d n j ≡ [] → ⊥
  pub few : k ≤ start

module _ (d : ℕ → ℕ → Bool) (n : ℕ) (o₀ o r₀ e₀ cs : List ℕ) (len : ℕ) (h : n ≤ length o)
    (c : Counted d n cs) (e : Picked (λ q. eqb (get_or cs q 0) 0) o 0 n o₀ len) where
  -- the order as the first front leaves it
  first-members : keep_below (λ q. eqb (get_or cs q 0) 0) n ≡ listing d n 1
  unfolding round first_round next_round join_below
  first-members = keep_below-same _ _ n (λ t u. ap (λ v. eqb v 0) (c t u))

  first-order : o₀ ≡ over (listing d n 1) o
  first-order = e.stored ∙ ap (sets o 0) first-members ∙ over-front (listing d n 1) o (omega (arith, listing-room d n 1))

  rest-same : drop (length (listing d n 1)) o₀ ≡ drop (length (listing d n 1)) o
  rest-same = ap (drop (length (listing d n 1))) first-order ∙ over-drop (listing d n 1) o (length (listing d n 1)) refl

  -- the loop begins at round 0
  pub sorting_first : Sorting d n o₀ r₀ e₀ 0 0 len cs o₀ r₀ e₀
  unfolding round first_round next_round join_below ranked
  sorting_first = record {
    counted = c;
    starts = refl;
    stops = omega (arith, e.ends, ap length first-members);
    order = first-order ∙ ap (λ t. listing d n 1 ++ t) (sym rest-same);
    ranks = refl;
    ended = sym (over_none (front_end d n) e₀);
    filled = λ j u. absurd (omega arith);
    few = omega arith;
  }

  -- and the order from place n on is untouched so far
  pub first_rest : drop n o₀ ≡ drop n o
  first_rest = drop_later (length (listing d n 1)) n o₀ o (listing-room d n 1) rest-same

module _ (d : ℕ → ℕ → Bool) (n : ℕ) (o₀ r₀ e₀ : List ℕ) (k start end : ℕ) (cs o r en : List ℕ)
    (h : Sorting d n o₀ r₀ e₀ k start end cs o r en) where
  -- front k stands in the order from start to end
  current : slice start end o ≡ front d n k
  current =
      ap (λ x. drop start (take end x)) h.order
      ∙ ap (drop start) (over-take (listing d n (suc k)) o₀ end (sym h.stops) ∙ listing-more d n k)
      ∙ drop_at (listing d n k) (front d n k) start (sym h.starts)

  next-front : freed_all d n (slice start end o) (of cs) ≡ front d n (suc k)
  unfolding round first_round next_round
  next-front = ap (λ x. freed_all d n x (of cs)) current ∙ freed_all-same d d n (front d n k) (of cs) (round d n k).counts (λ p m t l. refl) h.counted

  -- the listed plans are of the pool
  pub sorting_within : end ≤ n
  sorting_within = omega (arith, h.stops, listing-room d n (suc k))

  -- the lent lists keep their lengths
  pub order-size : n ≤ length o₀ → length o ≡ length o₀
  order-size w = ap length h.order ∙ over-length (listing d n (suc k)) o₀ (omega (arith, listing-room d n (suc k)))

  pub ranks-size : length r ≡ length r₀
  ranks-size = ap length h.ranks ∙ ranked-length d n k r₀

  pub ends-size : n ≤ length e₀ → length en ≡ length e₀
  ends-size w = over-size (front_end d n) k en e₀ h.ended (omega (arith, h.few, h.starts, listing-room d n k))

  pub sorting_ready : n ≤ length cs → n ≤ length o₀ → n ≤ length r₀ → Ready d n start end cs o r
  sorting_ready c w v = record {
    counted = c;
    ahead = omega (arith, h.starts, h.stops, listing_grows d n k);
    inside = omega (arith, h.stops, listing-room d n (suc k), order-size w);
    plans = λ i s e.
        let x = listing-below d n (suc k) (get_or (listing d n (suc k)) i 0) (get_d_in (listing d n (suc k)) i (omega (arith, h.stops))) in
        let y = ap (λ x. get_or x i 0) h.order ∙ over-at (listing d n (suc k)) o₀ i 0 (omega (arith, h.stops)) in
        omega arith;
    fair = λ q l. omega (arith, fair d n k q l, h.counted q l, ap (tally (λ p. d p q)) current);
    room = omega (arith, ap length next-front, h.stops, listing_grows d n (suc k), listing-room d n (suc (suc k)), order-size w);
    wide = omega (arith, ranks-size);
  }

  pub sorting_more : (cs' o' r' : List ℕ) (len : ℕ) → start < end → n ≤ length o₀ → Passed d n k start end cs cs' o o' r r' len
      → k < length e₀ → Sorting d n o₀ r₀ e₀ (suc k) end len cs' o' r' (set en k end)
  unfolding round first_round next_round ranked
  sorting_more cs' o' r' len l w f u =
      let g = front d n (suc k) in
      let grown = listing_grows d n (suc k) in
      record {
        counted = λ t u. f.counts t u ∙ ap (λ x. lower_all d x (of cs) t) current
            ∙ lower_all-same d d n (front d n k) (of cs) (round d n k).counts (λ p m t l. refl) h.counted t u;
        starts = h.stops;
        stops = f.order.ends ∙ ap₂ (λ x y. x + length y) h.stops next-front ∙ sym grown;
        order = f.order.stored ∙ ap₂ (λ x y. sets x end y) h.order next-front
            ∙ over_run (listing d n (suc k)) g o₀ end (sym h.stops) (omega (arith, h.stops, listing-room d n (suc (suc k))))
            ∙ ap (λ x. over x o₀) (sym (listing-more d n (suc k)));
        ranks = f.ranks ∙ ap (λ x. mark x k r) current ∙ ap (mark (front d n k) k) h.ranks;
        ended = over-set (front_end d n) en e₀ k end u h.ended h.stops ∙ ap (λ t. over (list_below (front_end d n) t) e₀) (add-one k);
        filled = λ j v. below_more (λ j. front d n j ≡ [] → ⊥) k h.filled
            (λ z. omega (arith, h.starts, h.stops, listing_grows d n k, ap length z)) j (omega arith);
        few = omega (arith, h.few);
      }

  -- where front k is empty, k is the number of fronts
  count_now : Strict d n → front d n k ≡ [] → k ≡ front_count d n
  unfolding front_count
  count_now s z =
      let some : (j : ℕ) → j < k → no_members d n j ≡ false =
      λ j u. ne_eqb (length (front d n j)) 0 (λ e. h.filled j u (empty_of (front d n j) e)) in
      sym (⊎_elim
      (λ v. ap (first_below (no_members d n)) (sym v) ∙ first_below_nowhere _ k some)
      (λ v. first_below-at _ n k v (eq-eqb (length (front d n k)) 0 (ap length z)) some)
      (eq-or-lt_of_le (first_empty d n s k h.filled z)))

  -- and all is listed
  pub sorting_done : (s : Strict d n) → n ≤ length r₀ → (o₁ : List ℕ) → drop n o₀ ≡ drop n o₁ → end ≤ start → Sorted d n o₁ o r₀ r e₀ en k
  sorting_done s lr o₁ same e =
      let z = empty_of (front d n k) (omega (arith, h.starts, h.stops, listing_grows d n k)) in
      let all = (empty_later d n k (suc k) (omega arith) z).1 ∙ listing-all d n s k h.filled z in
      let size = listing-length-n d n s in
      record {
        order = h.order ∙ ap (λ x. over x o₀) all
            ∙ ap (λ t. listing d n n ++ t) (ap (λ t. drop t o₀) size ∙ same ∙ ap (λ t. drop t o₁) (sym size));
        ranks = h.ranks ∙ ranked-front_list d n s k r₀ lr z;
        ends = h.ended ∙ ap (λ t. over (list_below (front_end d n) t) e₀) (count_now s z);
        result = count_now s z;
      }

-- dominations that agree on the n plans promise the same
pub sorted_same : (d e : ℕ → ℕ → Bool) (n : ℕ) (o₀ o r₀ r e₀ en : List ℕ) (x : ℕ) → Agree d e n → Sorted d n o₀ o r₀ r e₀ en x → Sorted e n o₀ o r₀ r e₀ en x
unfolding front_count
sorted_same d e n o₀ o r₀ r e₀ en x a s =
    let count : front_count d n ≡ front_count e n = first_below-same _ _ n (λ k l. ap (λ f. eqb (length f) 0) (front_same d e n a k)) in
    let ends = list_below-same (front_end d n) (front_end e n) (front_count d n) (λ k l. ap length (listing-same d e n a (suc k)))
    ∙ ap (list_below (front_end e n)) count in
    record {
      order = s.order ∙ ap (λ l. over l o₀) (listing-same d e n a n);
      ranks = s.ranks ∙ ap (λ l. over l r₀) (front_list-same d e n a);
      ends = s.ends ∙ ap (λ l. over l e₀) ends;
      result = s.result ∙ count;
    }
