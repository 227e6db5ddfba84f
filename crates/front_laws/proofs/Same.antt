-- Only which of the n plans dominates which matters: dominations that agree on them have the same fronts.
use Prim.Native.Nat.{ℕ, zero, suc, ◌<◌}
use mathlib.Core.Path.{◌≡◌, ap, ◌∙◌}
use mathlib.Core.Bool.{Bool}
use lib.Dec.{eqb}
use Rattle.model.specs.Front.{lower_all, freed_all, first_round, next_round, round, front, listing, front_of, front_list}
use Rattle.model.specs.Lists.{count_below, has, In}
use Rattle.list_laws.proofs.Built.{list_below-same, join_below-same}
use Rattle.list_laws.proofs.Counts.{count_below-same}
use Rattle.list_laws.proofs.First.{first_below-same}
use Rattle.list_laws.proofs.Kept.{keep_below-same}
use Rattle.front_laws.proofs.Lowering.{lower_all-same, freed_all-same}
use Rattle.front_laws.proofs.Rounds.{found}

-- the two dominations agree on the n plans
abbrev pub Agree : (ℕ → ℕ → Bool) → (ℕ → ℕ → Bool) → ℕ → Type 0
Agree d e n = (p q : ℕ) → p < n → q < n → d p q ≡ e p q

module _ (d e : ℕ → ℕ → Bool) (n : ℕ) (a : Agree d e n) where
  -- they agree on whom the members of front k dominate
  members_agree : (k p : ℕ) → In p (front d n k) → (t : ℕ) → t < n → d p t ≡ e p t
  members_agree k p m t l = a p t ((found d n k).below p m) l

  counted_agree : (t : ℕ) → t < n → count_below (λ p. d p t) n ≡ count_below (λ p. e p t) n
  counted_agree t l = count_below-same _ _ n (λ p u. a p t u l)

  record Agreed (k : ℕ) : Type 0 where
    pub members : front d n k ≡ front e n k
    pub counts : (t : ℕ) → t < n → (round d n k).counts t ≡ (round e n k).counts t

  agreed : (k : ℕ) → Agreed k
  unfolding round first_round next_round
  agreed zero = record {
    members = keep_below-same _ _ n (λ t l. ap (λ c. eqb c 0) (counted_agree t l));
    counts = counted_agree;
  }
  agreed (suc k) =
      let h = agreed k in
      let b = members_agree k in
      record {
        members = freed_all-same d e n (front d n k) (round d n k).counts (round e n k).counts b h.counts
            ∙ ap (λ l. freed_all e n l (round e n k).counts) h.members;
        counts = λ t l. lower_all-same d e n (front d n k) (round d n k).counts (round e n k).counts b h.counts t l
            ∙ ap (λ l. lower_all e l (round e n k).counts t) h.members;
      }

  pub front_same : (k : ℕ) → front d n k ≡ front e n k
  front_same k = (agreed k).members

  pub listing-same : (k : ℕ) → listing d n k ≡ listing e n k
  listing-same k = join_below-same (front d n) (front e n) k (λ t l. front_same t)

  pub front_of-same : (q : ℕ) → front_of d n q ≡ front_of e n q
  unfolding front_of
  front_of-same q = first_below-same _ _ n (λ k l. ap (λ f. has f q) (front_same k))

  pub front_list-same : front_list d n ≡ front_list e n
  unfolding front_list
  front_list-same = list_below-same _ _ n (λ q l. front_of-same q)
