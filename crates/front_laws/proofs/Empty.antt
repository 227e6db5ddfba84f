-- Once a front is empty all later fronts are, and the listing grows no more.
use Prim.Native.Nat.{ℕ, suc, ◌≤◌, ◌<◌}
use mathlib.Core.Path.{◌≡◌, refl, ap, sym, ◌∙◌}
use mathlib.Core.Bool.{Bool}
use mathlib.Core.List.{[], ◌++◌, append-nil}
use Rattle.model.specs.Front.{freed_all, first_round, next_round, round, front, listing}
use Rattle.list_laws.proofs.Below.{later, by_lt}
use Rattle.front_laws.specs.Strict.{Strict}
use Rattle.front_laws.proofs.Listings.{listing-more}
use Rattle.front_laws.proofs.Order.{ended}

stays_empty : (d : ℕ → ℕ → Bool) (n k : ℕ) → front d n k ≡ [] → front d n (suc k) ≡ []
unfolding round first_round next_round freed_all
stays_empty d n k e = rw e

pub empty_later : (d : ℕ → ℕ → Bool) (n k j : ℕ) → k ≤ j → front d n k ≡ [] → (front d n j ≡ []) × (listing d n j ≡ listing d n k)
empty_later d n k j h e =
    later (λ t. (front d n t ≡ []) × (listing d n t ≡ listing d n k))
    (λ t s. (stays_empty d n t s.0, listing-more d n t ∙ ap (λ l. listing d n t ++ l) s.0 ∙ append-nil (listing d n t) ∙ s.1))
    k j h (e, refl)

module _ (d : ℕ → ℕ → Bool) (n : ℕ) (s : Strict d n) (x : ℕ) (f : (j : ℕ) → j < x → front d n j ≡ [] → ⊥) (e : front d n x ≡ []) where
  -- the first empty front comes within n rounds
  pub first_empty : x ≤ n
  first_empty = by_lt n x (λ l. absurd (f n l (ended d n s))) (λ l. l)

  -- and the fronts before it, joined, are all fronts
  pub listing-all : listing d n x ≡ listing d n n
  listing-all = sym (empty_later d n x n first_empty e).1
