-- The turn of the loop over a front: its members before place i have ranked themselves, lowered the counts and listed whom they freed.
use Prim.Native.Nat.{ℕ, suc, ◌+◌, ◌-◌, ◌≤◌, ◌<◌}
use mathlib.Core.Path.{◌≡◌, refl, ap, sym, ◌∙◌}
use mathlib.Core.Bool.{Bool}
use mathlib.Core.List.{List, [], ◌∷◌, ◌++◌, append-nil}
use native.Mathlib.Omega.{arith}
use lib.ListN.{length, get_or, set, take, drop, length-append, take-append-drop}
use lib.Seq.{slice, slice_empty, slice-cons, length-take-le, drop-append-le, take-take}
use Rattle.model.specs.Front.{lower, freed, lower_all, freed_all}
use Rattle.model.specs.Lists.{one, tally}
use Rattle.list_laws.proofs.Built.{over_below, take_more}
use Rattle.list_laws.proofs.Members.{tally_cons, tally-append}
use Rattle.front_laws.specs.Ranks.{mark}
use Rattle.front_laws.proofs.Lowering.{lower_all-count, lower_all-append, freed_all-append, freed-same}
use Rattle.front_laws.proofs.Ranks.{mark-append, mark-length}
use Rattle.front_laws.specs.Post.{of, freed_at, Released, Passing}
use Rattle.list_laws.proofs.Runs.{before_run}
use Rattle.list_laws.proofs.Stores.{put_nothing, put_then, put-length, put_as}

-- a part one longer
pub slice_snoc : (f i : ℕ) (l : List ℕ) → f ≤ i → i < length l → slice f (i + 1) l ≡ slice f i l ++ (get_or l i 0 ∷ [])
slice_snoc f i l h k =
    ap (drop f) (take_more 0 l i k)
    ∙ drop-append-le f (take i l) (get_or l i 0 ∷ []) (omega (arith, length-take-le i l (omega arith)))

-- a part as what comes before place i, what stands there, and the rest
pub slice_parts : (f i t : ℕ) (l : List ℕ) → f ≤ i → i < t → t ≤ length l → slice f t l ≡ slice f i l ++ (get_or l i 0 ∷ slice (suc i) t l)
slice_parts f i t l h k u =
    ap (drop f) (sym (take-append-drop i (take t l)))
    ∙ ap (λ x. drop f (x ++ slice i t l)) (take-take i t l (omega arith))
    ∙ drop-append-le f (take i l) (slice i t l) (omega (arith, length-take-le i l (omega arith)))
    ∙ ap (λ x. slice f i l ++ x) (slice-cons i t l 0 k u)

pub passing_first : (d : ℕ → ℕ → Bool) (n k start end : ℕ) (cs₀ o₀ r₀ : List ℕ) → Passing d n k start end cs₀ o₀ r₀ start cs₀ o₀ r₀ end
unfolding lower_all freed_all mark
passing_first d n k start end cs₀ o₀ r₀ =
    let e = slice_empty start o₀ in
    record {
      counts = λ t h. rw e;
      order = rw e (put_nothing o₀ end);
      ranks = rw e;
    }

module _ (d : ℕ → ℕ → Bool) (n k start end : ℕ) (cs₀ o₀ r₀ : List ℕ) (i : ℕ) (cs o r : List ℕ) (len : ℕ)
    (h : Passing d n k start end cs₀ o₀ r₀ i cs o r len) where
  -- the order and the ranks keep their lengths
  pub order-kept : length o ≡ length o₀
  order-kept = put-length o₀ o end len (freed_all d n (slice start i o₀) (of cs₀)) h.order

  pub ranks-kept : length r ≡ length r₀
  ranks-kept = ap length h.ranks ∙ mark-length (slice start i o₀) k r₀

  -- the member at place i is the one that stood there at first
  pub member_still : i < end → get_or o i 0 ≡ get_or o₀ i 0
  member_still l = ap (λ t. get_or t i 0) h.order.stored ∙ before_run o₀ end (freed_all d n (slice start i o₀) (of cs₀)) i l

  -- no count is lowered below zero
  pub passing_fair : start ≤ i → i < end → end ≤ length o₀ → (t : ℕ) → t < n → tally (λ p. d p t) (slice start end o₀) ≤ get_or cs₀ t 0
      → one (d (get_or o i 0) t) ≤ get_or cs t 0
  passing_fair s l u t v g =
      let x = slice start i o₀ in
      let p = get_or o₀ i 0 in
      let parts = ap (tally (λ p. d p t)) (slice_parts start i end o₀ s l u) in
      let a = tally-append (λ p. d p t) x (p ∷ slice (suc i) end o₀) in
      let b = tally_cons (λ p. d p t) p (slice (suc i) end o₀) in
      let c = h.counts t v in
      let e = lower_all-count d x (of cs₀) t in
      let m = ap (λ q. one (d q t)) (member_still l) in
      omega arith

  -- whom the member frees, at the counts as they are
  freed_now : freed_at d n (get_or o₀ i 0) cs ≡ freed d n (get_or o₀ i 0) (lower_all d (slice start i o₀) (of cs₀))
  freed_now = freed-same d d n (get_or o₀ i 0) (of cs) _ (λ t l. refl) h.counts

  -- there is room for them
  pub passing_room : start ≤ i → i < end → end ≤ length o₀ → end + length (freed_all d n (slice start end o₀) (of cs₀)) ≤ length o₀
      → len + length (freed_at d n (get_or o i 0) cs) ≤ length o
  unfolding freed_all
  passing_room s l u v =
      let x = slice start i o₀ in
      let p = get_or o₀ i 0 in
      let y = slice (suc i) end o₀ in
      let w = lower_all d x (of cs₀) in
      let m = ap (λ q. length (freed_at d n q cs)) (member_still l) in
      let f = ap length freed_now in
      let e = ap (λ q. length (freed_all d n q (of cs₀))) (slice_parts start i end o₀ s l u)
      ∙ ap length (freed_all-append d n x (p ∷ y) (of cs₀))
      ∙ length-append (freed_all d n x (of cs₀)) (freed d n p w ++ freed_all d n y (lower d p w)) in
      let g = length-append (freed d n p w) (freed_all d n y (lower d p w)) in
      let a = h.order.ends in
      omega (arith, order-kept)

  -- the member's turn
  pub passing_more : (cs' o' : List ℕ) (x : ℕ) → start ≤ i → i < end → end ≤ length o₀ → Released d n (get_or o i 0) len cs cs' o o' x
      → Passing d n k start end cs₀ o₀ r₀ (i + 1) cs' o' (set r (get_or o i 0) k) x
  unfolding lower_all freed_all freed mark lower
  passing_more cs' o' x s l u f =
      let xs = slice start i o₀ in
      let p = get_or o₀ i 0 in
      let w = lower_all d xs (of cs₀) in
      let m = member_still l in
      let e = slice_snoc start i o₀ s (omega arith) in
      let fr = freed_all-append d n xs (p ∷ []) (of cs₀) ∙ ap (λ t. freed_all d n xs (of cs₀) ++ t) (append-nil (freed d n p w)) in
      let all = ap (λ q. freed_all d n q (of cs₀)) e ∙ fr in
      let now = ap (λ q. freed_at d n q cs) m ∙ freed_now in
      record {
        counts = λ t v. over_below (lower d (get_or o i 0) (of cs)) n cs' cs t 0 f.counts v ∙ ap (λ q. get_or cs t 0 - one (d q t)) m ∙ ap (λ c. c - one (d p t)) (h.counts t v)
            ∙ sym (ap (λ q. lower_all d q (of cs₀) t) e ∙ ap (λ g. g t) (lower_all-append d xs (p ∷ []) (of cs₀)));
        order = put_as o₀ o' end x _ _ (sym all) (put_then o₀ o o' end len x (freed_all d n xs (of cs₀)) (freed d n p w) h.order (put_as o o' len x _ _ now f.order));
        ranks = ap (λ q. set r q k) m ∙ ap (λ q. set q p k) h.ranks
            ∙ sym (ap (λ q. mark q k r₀) e ∙ mark-append xs (p ∷ []) k r₀);
      }
