-- The fronts of document 01 are those of the paper. d p q says that plan p dominates plan q; the first three laws hold of any d, the others of a strict one.
use Prim.Native.Nat.{ℕ, suc, ◌≤◌, ◌<◌}
use mathlib.Core.Path.{◌≡◌, ap, sym, ◌∙◌}
use mathlib.Core.Bool.{Bool, true, false, not, ◌&&◌}
use mathlib.Core.List.{List, []}
use mathlib.Core.Logic.{◌↔◌}
use native.Mathlib.Omega.{arith}
use lib.ListN.{length}
use Rattle.model.specs.Front.{front, listing, front_of, front_list}
use Rattle.model.specs.Lists.{one, over, In}
use Rattle.model.specs.Papers.Deb2002.{undominated_of_rest, in_first, in_front}
use Rattle.list_laws.specs.Occ.{occ}
use Rattle.list_laws.proofs.Bools.{by_bool, no_pass}
use Rattle.list_laws.proofs.Built.{over-filled}
use Rattle.list_laws.proofs.First.{first_below-at}
use Rattle.list_laws.proofs.Members.{not-has, in_has}
use Rattle.list_laws.proofs.Tests.{any_below_nowhere}
use Rattle.front_laws.specs.Ranks.{ranked}
use Rattle.front_laws.specs.Strict.{Strict}
use Rattle.front_laws.proofs.Order.{front-exactly, in_front_undominated, one-front, not_dominated, under-front, all-in_first, empty_in_first, ended, listing-whole}
use Rattle.front_laws.proofs.Ranks.{ranked-length, ranked-drop, ranked-at}
use Rattle.front_laws.proofs.Rounds.{in_front_new, in_first-front, found}

-- the members of front k are those of the paper's: the undominated once the fronts before are set aside
pub front-paper : (d : ℕ → ℕ → Bool) (n k q : ℕ) → In q (front d n k) ↔ ((q < n) × (in_front d n k q ≡ true))
front-paper d n k q = let f = front-exactly d n k in (λ m. (f.below q m, f.passes q m), λ h. f.every q h.0 h.1)

-- the same in the paper's words: of the plans that no front before front k holds, front k holds those that none of these dominates
pub front_undominated : (d : ℕ → ℕ → Bool) (n k q : ℕ)
    → In q (front d n k) ↔ ((q < n) × (in_first d n k q ≡ false) × ((p : ℕ) → p < n → in_first d n k p ≡ false → d p q ≡ false))
unfolding undominated_of_rest
front_undominated d n k q = (
  λ m. let e = (front-exactly d n k).passes q m in ((front-exactly d n k).below q m, in_front_new d n k q e, in_front_undominated d n k q e),
  λ h. (front-exactly d n k).every q h.0
      (let none = any_below_nowhere (λ p. not (in_first d n k p) && d p q) n (λ p l. by_bool (in_first d n k p) (λ y. ap (λ b. not b && d p q) y)
      (λ y. ap (λ b. not b && d p q) y ∙ h.2 p l y)) in
      rw (h.1, none)),
)

-- no plan dominates another of its own or an earlier front
pub none_backwards : (d : ℕ → ℕ → Bool) (n k j q p : ℕ) → k ≤ j → In q (front d n k) → In p (front d n j) → d p q ≡ false
none_backwards d n k j q p h mq mp = not_dominated d n k j q p h ((front-exactly d n j).below p mp) ((front-exactly d n k).passes q mq) ((front-exactly d n j).passes p mp)

module _ (d : ℕ → ℕ → Bool) (n : ℕ) (s : Strict d n) where
  -- every plan stands once in one front, and in no other
  pub in_exactly_one : (q : ℕ) → q < n → (k : ℕ) × (k < n) × (occ q (front d n k) ≡ 1) × ((j : ℕ) → (j ≡ k → ⊥) → occ q (front d n j) ≡ 0)
  in_exactly_one q l =
      let r = in_first-front d n n q (all-in_first d n s q l) in (
        r.0,
        r.1,
        (found d n r.0).exact q l ∙ ap one r.2,
        λ j v. (found d n j).exact q l ∙ ap one (no_pass (in_front d n j q) (λ e. v (one-front d n j r.0 q e r.2))),
      )

  -- every plan of front k + 1 is dominated by one of front k
  pub dominated_from_before : (k q : ℕ) → In q (front d n (suc k)) → (p : ℕ) × In p (front d n k) × (d p q ≡ true)
  dominated_from_before k q m =
      let t = under-front d n s k q ((front-exactly d n (suc k)).below q m) ((front-exactly d n (suc k)).passes q m) in
      (t.0, (front-exactly d n k).every t.0 t.1 t.2, t.3)

  pub listing-length-n : length (listing d n n) ≡ n
  listing-length-n = listing-whole d n s n (ended d n s)

  -- front_of is the front that holds a plan
  pub front_of-at : (k q : ℕ) → In q (front d n k) → front_of d n q ≡ k
  unfolding front_of
  front_of-at k q m =
      let l = (front-exactly d n k).below q m in
      let e = (front-exactly d n k).passes q m in
      let r = in_first-front d n n q (all-in_first d n s q l) in
      let same = one-front d n k r.0 q e r.2 in
      first_below-at _ n k (omega (arith, r.1)) (in_has (front d n k) q m)
      (λ j u. not-has (front d n j) q (λ v. omega (arith, one-front d n j k q ((front-exactly d n j).passes q v) e)))

  -- the front numbers written front after front are those of every plan, once a front is empty
  pub ranked-front_list : (k : ℕ) (r : List ℕ) → n ≤ length r → front d n k ≡ [] → ranked d n k r ≡ over (front_list d n) r
  unfolding front_list
  ranked-front_list k r h e =
      over-filled (front_of d n) n 0 (ranked d n k r) r (omega (arith, ranked-length d n k r))
      (λ q l. let t = in_first-front d n k q (empty_in_first d n s k e q l) in
      ranked-at d n k r t.0 q h l t.1 t.2 ∙ sym (front_of-at t.0 q ((front-exactly d n t.0).every q l t.2)))
      (ranked-drop d n k r)
