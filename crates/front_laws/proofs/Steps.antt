-- The turn of the release loop: the counts below q are lowered by member p, the others are as they were, and whom p frees below q is listed.
use Prim.Native.Nat.{ℕ, ◌+◌, ◌-◌, ◌≤◌, ◌<◌}
use mathlib.Core.Path.{◌≡◌, ap, sym, ◌∙◌}
use mathlib.Core.Bool.{Bool, true, false, ◌&&◌}
use mathlib.Core.List.{List}
use native.Mathlib.Omega.{arith}
use borrow.Author.Tests.{eq-eqb}
use lib.Dec.{eqb}
use lib.ListN.{length, get_or}
use Rattle.model.specs.Front.{lower, freed, frees}
use Rattle.model.specs.Lists.{one}
use Rattle.list_laws.proofs.Built.{over_none, over-set, over-size}
use Rattle.list_laws.proofs.Kept.{keep_below-room}
use Rattle.list_laws.proofs.Runs.{over-next, over-keep}
use Rattle.front_laws.specs.Post.{of, freed_at, Freed, Releasing}
use Rattle.list_laws.proofs.Stores.{picked_none, picked_no, picked-length, picked_more}

pub releasing_first : (d : ℕ → ℕ → Bool) (p : ℕ) (cs₀ o₀ : List ℕ) (at : ℕ) → Releasing d p cs₀ o₀ at 0 cs₀ o₀ at
releasing_first d p cs₀ o₀ at = record { counts = sym (over_none (lower d p (of cs₀)) cs₀); order = picked_none (frees d p (of cs₀)) o₀ at }

module _ (d : ℕ → ℕ → Bool) (p : ℕ) (cs₀ o₀ : List ℕ) (at q : ℕ) (cs o : List ℕ) (len : ℕ) (h : Releasing d p cs₀ o₀ at q cs o len) where
  -- q's count is as it was
  pub count_still : get_or cs q 0 ≡ get_or cs₀ q 0
  count_still = over-next (lower d p (of cs₀)) cs cs₀ q 0 h.counts

  pub counts-size : q ≤ length cs₀ → length cs ≡ length cs₀
  counts-size l = over-size (lower d p (of cs₀)) q cs cs₀ h.counts l

  pub releasing_size : length o ≡ length o₀
  releasing_size = picked-length (frees d p (of cs₀)) o₀ at q o len h.order

  -- the test that the turn makes says whether p frees q
  frees_now : d p q ≡ true → frees d p (of cs₀) q ≡ eqb (get_or cs q 0 - 1) 0
  unfolding lower
  frees_now e = ap (λ b. b && eqb (get_or cs₀ q 0 - one b) 0) e ∙ ap (λ v. eqb (v - 1) 0) (sym count_still)

  -- where it does there is room for it
  frees-room : (n : ℕ) → q < n → at + length (freed_at d n p cs₀) ≤ length o₀ → d p q ≡ true → get_or cs q 0 ≡ 1 → len < length o₀
  unfolding freed
  frees-room n l r e v =
      omega (arith, h.order.ends, r, keep_below-room (frees d p (of cs₀)) n q l (frees_now e ∙ eq-eqb (get_or cs q 0 - 1) 0 (omega arith)))

  -- what lowering q's count asks, where p dominates q
  pub releasing_asks : (n : ℕ) → q < n → n ≤ length cs₀ → one (d p q) ≤ get_or cs₀ q 0 → at + length (freed_at d n p cs₀) ≤ length o₀ → d p q ≡ true
      → (q < length cs) × (1 ≤ get_or cs q 0) × (get_or cs q 0 ≡ 1 → len < length o)
  releasing_asks n l m u r e =
      (omega (arith, counts-size (omega arith)), omega (arith, count_still, ap one e), λ v. omega (arith, releasing_size, frees-room n l r e v))

  pub releasing_yes : (cs' o' : List ℕ) (r : ℕ) → q < length cs₀ → d p q ≡ true → Freed q len cs cs' o o' r
      → Releasing d p cs₀ o₀ at (q + 1) cs' o' r
  unfolding lower
  releasing_yes cs' o' r l e f = record {
    counts = f.counts ∙ over-set (lower d p (of cs₀)) cs cs₀ q (get_or cs q 0 - 1) l h.counts (omega (arith, count_still, ap one e));
    order = picked_more (frees d p (of cs₀)) o₀ at q o len (eqb (get_or cs q 0 - 1) 0) o' r (frees_now e) h.order f.order;
  }

  pub releasing_no : q < length cs₀ → d p q ≡ false → Releasing d p cs₀ o₀ at (q + 1) cs o len
  unfolding lower
  releasing_no l e = record {
    counts = over-keep (lower d p (of cs₀)) cs cs₀ q 0 l h.counts (omega (arith, ap one e));
    order = picked_no (frees d p (of cs₀)) o₀ at q o len (ap (λ b. b && eqb (lower d p (of cs₀) q) 0) e) h.order;
  }
