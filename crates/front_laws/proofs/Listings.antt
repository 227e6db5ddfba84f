-- The listing of the first k fronts, one front more.
use Prim.Native.Nat.{ℕ, suc, ◌+◌, ◌≤◌}
use mathlib.Core.Path.{◌≡◌, refl, ap, ◌∙◌}
use mathlib.Core.Bool.{Bool}
use mathlib.Core.List.{◌++◌}
use lib.ListN.{length, take, length-append}
use lib.Seq.{take_at}
use Rattle.model.specs.Front.{front, listing}
use Rattle.model.specs.Lists.{join_below}
use Rattle.list_laws.proofs.Rows.{join_below-begins}

module _ (d : ℕ → ℕ → Bool) (n : ℕ) where
  pub listing_none : length (listing d n 0) ≡ 0
  unfolding join_below
  listing_none = refl

  pub listing-more : (k : ℕ) → listing d n (suc k) ≡ listing d n k ++ front d n k
  unfolding join_below
  listing-more k = refl

  pub listing_grows : (k : ℕ) → length (listing d n (suc k)) ≡ length (listing d n k) + length (front d n k)
  listing_grows k = ap length (listing-more k) ∙ length-append (listing d n k) (front d n k)

  pub listing-take : (k j : ℕ) → k ≤ j → take (length (listing d n k)) (listing d n j) ≡ listing d n k
  listing-take k j h = let r = join_below-begins (front d n) k j h in ap (take (length (listing d n k))) r.1 ∙ take_at (listing d n k) r.0 (length (listing d n k)) refl
