-- Where the fronts stand in the listing, by their ends.
use Prim.Native.Nat.{ℕ, ◌≤◌, ◌<◌}
use mathlib.Core.Path.{◌≡◌, ap, sym, ◌∙◌}
use mathlib.Core.Bool.{Bool}
use mathlib.Core.List.{List, []}
use mathlib.Core.Logic.{⊎_elim}
use native.Mathlib.Nat.{eq-or-lt_of_le}
use native.Mathlib.Omega.{arith}
use borrow.Author.Tests.{eqb-true}
use lib.ListN.{length, get_or, take}
use lib.Seq.{take-take}
use Rattle.model.specs.Front.{front, listing}
use Rattle.list_laws.proofs.Built.{over-take, over_below}
use Rattle.list_laws.proofs.First.{first_below_le, first_below-passes}
use Rattle.list_laws.proofs.Members.{empty_of}
use Rattle.front_laws.specs.Post.{no_members, front_count, front_end, Sorted}
use Rattle.front_laws.specs.Strict.{Strict}
use Rattle.front_laws.proofs.Listings.{listing-take}
use Rattle.front_laws.proofs.Order.{ended, listing-room}
use Rattle.front_laws.proofs.Theorems.{listing-length-n}

-- the number of fronts is that of the first empty one
module _ (d : ℕ → ℕ → Bool) (n : ℕ) where
  pub front_count_le : front_count d n ≤ n
  unfolding front_count
  front_count_le = first_below_le _ n

  pub front_count_empty : Strict d n → front d n (front_count d n) ≡ []
  unfolding front_count
  front_count_empty s = ⊎_elim
      (λ e. ap (front d n) e ∙ ended d n s)
      (λ l. empty_of (front d n (front_count d n)) (eqb-true _ 0 (first_below-passes (no_members d n) n l)))
      (eq-or-lt_of_le front_count_le)

-- what a sort leaves in the lent slices
module _ (d : ℕ → ℕ → Bool) (n : ℕ) (o₀ o r₀ r e₀ e : List ℕ) (x : ℕ) (h : Sorted d n o₀ o r₀ r e₀ e x) where
  pub sorted_few : x ≤ n
  sorted_few = omega (arith, h.result, front_count_le d n)

  -- the end of front k
  pub sorted_end : (k : ℕ) → k < x → get_or e k 0 ≡ front_end d n k
  sorted_end k l = over_below (front_end d n) (front_count d n) e e₀ k 0 h.ends (omega (arith, h.result))

  -- all plans, and the first k fronts
  pub sorted_order : Strict d n → take n o ≡ listing d n n
  sorted_order s = ap (take n) h.order ∙ over-take (listing d n n) o₀ n (listing-length-n d n s)

  pub sorted_fronts : Strict d n → (k : ℕ) → k ≤ n → take (length (listing d n k)) o ≡ listing d n k
  sorted_fronts s k l =
      let size = listing-length-n d n s in
      let room = listing-room d n k in
      sym (take-take (length (listing d n k)) n o room) ∙ ap (take (length (listing d n k))) (sorted_order s) ∙ listing-take d n k n l
