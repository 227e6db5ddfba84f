-- The counts of dominators, pair by pair: after the plans below q have been compared with each other, a count is that of the dominators below q.
use Prim.Native.Nat.{ℕ, ◌+◌, ◌≤◌, ◌<◌}
use mathlib.Core.Path.{◌≡◌, ap, sym, ◌∙◌}
use mathlib.Core.Bool.{Bool, true, false}
use mathlib.Core.List.{List}
use native.Mathlib.Omega.{arith}
use lib.ListN.{length, get_or, set}
use Rattle.model.specs.Lists.{one, count_below, list_below, over}
use Rattle.list_laws.proofs.Counts.{count_below_none, count_below-more, count_below_yes, count_below_no, count_below_le}
use Rattle.front_laws.specs.Post.{Countable, Raising, Raised, Counted}
use Rattle.list_laws.proofs.Built.{over_none, over-set, over-size, over_below}
use Rattle.list_laws.proofs.Runs.{over-next, over-keep}
use Rattle.list_laws.proofs.Stores.{set-each}

-- ---- plan q has been compared with those before p

pub raising_first : (d : ℕ → ℕ → Bool) (q : ℕ) (cs : List ℕ) → Raising d q cs 0 cs 0
raising_first d q cs = record { counts = sym (over_none _ cs); result = sym (count_below_none _) }

module _ (d : ℕ → ℕ → Bool) (q : ℕ) (cs₀ : List ℕ) (p : ℕ) (cs : List ℕ) (c : ℕ) (h : Raising d q cs₀ p cs c) where
  -- where q does not dominate p, its count stays; where p does not dominate q, it is not counted
  kept : p < length cs₀ → d q p ≡ false → cs ≡ over (list_below (λ t. get_or cs₀ t 0 + one (d q t)) (p + 1)) cs₀
  kept l f = over-keep _ cs cs₀ p 0 l h.counts (omega (arith, ap one f))

  uncounted : d p q ≡ false → c ≡ count_below (λ s. d s q) (p + 1)
  uncounted e = h.result ∙ sym (count_below_no (λ s. d s q) p e)

  -- p dominates q; q dominates p; neither
  pub raising_dominated : p < length cs₀ → d p q ≡ true → d q p ≡ false → Raising d q cs₀ (p + 1) cs (c + 1)
  raising_dominated l e f = record { counts = kept l f; result = ap (λ t. t + 1) h.result ∙ sym (count_below_yes (λ s. d s q) p e) }

  pub raising_dominates : p < length cs₀ → d p q ≡ false → d q p ≡ true → Raising d q cs₀ (p + 1) (set cs p (get_or cs p 0 + 1)) c
  raising_dominates l e f = record {
    counts = over-set _ cs cs₀ p (get_or cs p 0 + 1) l h.counts (omega (arith, over-next _ cs cs₀ p 0 h.counts, ap one f));
    result = uncounted e;
  }

  pub raising_neither : p < length cs₀ → d p q ≡ false → d q p ≡ false → Raising d q cs₀ (p + 1) cs c
  raising_neither l e f = record { counts = kept l f; result = uncounted e }

  pub raising_size : p ≤ length cs₀ → length cs ≡ length cs₀
  raising_size l = over-size _ p cs cs₀ h.counts l

  -- both counts stay small
  pub raising_small : (n : ℕ) → Countable n q cs₀ → p < q → (c ≤ p) × (get_or cs p 0 ≤ q)
  raising_small n a l = (omega (arith, h.result, count_below_le (λ s. d s q) p), omega (arith, over-next _ cs cs₀ p 0 h.counts, a.low p l))

-- ---- the plans below q have been compared with each other

pub counted-low : (d : ℕ → ℕ → Bool) (q : ℕ) (cs : List ℕ) → Counted d q cs → (t : ℕ) → t < q → get_or cs t 0 ≤ q
counted-low d q cs h t l = omega (arith, h t l, count_below_le (λ s. d s t) q)

-- one plan more, which does not dominate itself
pub counted-more : (d : ℕ → ℕ → Bool) (q : ℕ) (cs₀ cs : List ℕ) (r : ℕ) → Counted d q cs₀ → Raised d q cs₀ cs r → d q q ≡ false → q < length cs
    → Counted d (q + 1) (set cs q r)
counted-more d q cs₀ cs r h a e l = set-each (λ t (x : ℕ). x ≡ count_below (λ s. d s t) (q + 1)) 0 cs q r l
    (a.result ∙ sym (count_below_no (λ s. d s q) q e))
    (λ t u. over_below _ q cs cs₀ t 0 a.counts u ∙ ap (λ v. v + one (d q t)) (h t u) ∙ sym (count_below-more (λ s. d s t) q))
