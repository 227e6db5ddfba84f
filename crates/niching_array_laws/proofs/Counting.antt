-- The loop that counts the plans of each line.
use Prim.Native.Nat.{ℕ, ◌+◌, ◌≤◌, ◌<◌}
use mathlib.Core.Path.{◌≡◌, ap, sym, ◌∙◌}
use mathlib.Core.List.{List, [], ◌∷◌, ◌++◌}
use native.Mathlib.Omega.{arith}
use lib.Dec.{eqb}
use lib.ListN.{length, get_or, set, take}
use lib.Seq.{take-length, length-take-le}
use Rattle.model.specs.Kept.{niche_count}
use Rattle.list_laws.proofs.Built.{take_more}
use Rattle.list_laws.proofs.Stores.{set_cases}
use Rattle.list_laws.proofs.Members.{tally_nil, tally_le}
use Rattle.niching_laws.proofs.Run.{count_same, count-other}
use Rattle.niching_array_laws.specs.Niche.{count_of, Zeros}

-- one plan more at the end of those counted, and its line's count one higher
pub counts-more : (line : ℕ → ℕ) (plans : List ℕ) (p : ℕ) (counts : List ℕ) → line p < length counts
    → ((l : ℕ) → count_of counts l ≡ niche_count line plans l)
    → (l : ℕ) → count_of (set counts (line p) (count_of counts (line p) + 1)) l ≡ niche_count line (plans ++ (p ∷ [])) l
counts-more line plans p counts h g l = set_cases (λ c. c ≡ niche_count line (plans ++ (p ∷ [])) l) 0 counts (line p) l (count_of counts (line p) + 1) h
    (λ v. omega (arith, g l, ap (count_of counts) v, count_same line plans p l v))
    (λ v. g l ∙ sym (count-other line plans p l v))

-- the counts of the first i plans
pub record Counted (line : ℕ → ℕ) (plans : List ℕ) (i : ℕ) (counts : List ℕ) : Type 0 where
  pub at : (l : ℕ) → count_of counts l ≡ niche_count line (take i plans) l

pub counted_none : (line : ℕ → ℕ) (plans counts : List ℕ) → Zeros counts → Counted line plans 0 counts
counted_none line plans counts z = record { at = λ l. z l ∙ sym (tally_nil (λ q. eqb (line q) l)) }

module _ {line : ℕ → ℕ} {plans : List ℕ} {i : ℕ} {counts : List ℕ} (g : Counted line plans i counts) where
  pub counted-more : i < length plans → line (get_or plans i 0) < length counts
      → Counted line plans (i + 1) (set counts (line (get_or plans i 0)) (count_of counts (line (get_or plans i 0)) + 1))
  counted-more h k = record {
    at = λ l. counts-more line (take i plans) (get_or plans i 0) counts k g.at l ∙ ap (λ t. niche_count line t l) (sym (take_more 0 plans i h));
  }

  -- no count is above the number of the plans
  pub counted_le : i ≤ length plans → (l : ℕ) → count_of counts l ≤ i
  counted_le h l = omega (arith, g.at l, tally_le (λ q. eqb (line q) l) (take i plans), length-take-le i plans h)

  pub counted-all : i ≡ length plans → (l : ℕ) → count_of counts l ≡ niche_count line plans l
  counted-all e l = g.at l ∙ ap (λ t. niche_count line t l) (ap (λ t. take t plans) e ∙ take-length plans)
