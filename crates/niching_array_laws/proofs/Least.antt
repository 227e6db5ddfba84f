-- The lines with the least niche count of those with waiting members.
use Prim.Native.Nat.{ℕ, ◌≤◌, ◌<◌}
use mathlib.Core.Path.{◌≡◌, refl, sym, ◌∙◌}
use mathlib.Core.Bool.{true}
use mathlib.Core.List.{List}
use mathlib.Core.Logic.{◌⊎◌, inl, inr, ⊎_elim}
use native.Mathlib.Omega.{arith}
use borrow.Author.Tests.{ltb-false, eq-eqb, eqb-true, eqb-false}
use lib.Dec.{eqb, leb, ltb}
use lib.ListN.{get_or}
use Rattle.model.specs.Lists.{count_below, keep_below, all_in, In}
use Rattle.model.specs.Kept.{least_lines}
use Rattle.list_laws.proofs.Bools.{by_bool, by_cond, no_pass}
use Rattle.list_laws.proofs.Best.{best_all, best_least, ltb_self, ltb_down}
use Rattle.list_laws.proofs.Counts.{count_below-at}
use Rattle.list_laws.proofs.Kept.{keep_below-same, keep_below_in, in_keep_below, keep-keep_below}
use Rattle.niching_laws.proofs.Choice.{all-least, least-all}
use Rattle.niching_array_laws.specs.Niche.{Open, count_of, has_waiting, is_least, open_count, least_below}

-- m is the least niche count of the lines below n with waiting members
pub record IsLeastOf (counts waits : List ℕ) (n m : ℕ) : Type 0 where
  pub bound : (k : ℕ) → Open waits n k → m ≤ get_or counts k 0
  pub line : ℕ
  pub is_open : Open waits n line
  pub met : get_or counts line 0 ≡ m

-- ---- the least count

least_below-bound : (top : ℕ) (counts waits : List ℕ) (n k : ℕ) → Open waits n k → least_below top counts waits n ≤ get_or counts k 0
least_below-bound top counts waits n k o =
    rw o.passes at (ltb-false (open_count top counts waits k) _ (best_least ltb ltb_self ltb_down top (open_count top counts waits) n k o.below))

least_below-met : (top : ℕ) (counts waits : List ℕ) (n : ℕ)
    → (least_below top counts waits n ≡ top) ⊎ ((k : ℕ) × Open waits n k × (get_or counts k 0 ≡ least_below top counts waits n))
least_below-met top counts waits n =
    best_all ltb Met top (open_count top counts waits) n (inl refl)
    (λ t l. by_cond Met (has_waiting waits t) (get_or counts t 0) top (λ e. inr (t, record { below = l; passes = e }, refl)) (λ e. inl refl))
  where
    Met : ℕ → Type 0
    Met x = (x ≡ top) ⊎ ((k : ℕ) × Open waits n k × (get_or counts k 0 ≡ x))

-- where some line has waiting members, and all counts are below `top`
pub least_below_is : (top : ℕ) (counts waits : List ℕ) (n k : ℕ) → Open waits n k → ((l : ℕ) → get_or counts l 0 < top)
    → IsLeastOf counts waits n (least_below top counts waits n)
least_below_is top counts waits n k o small = ⊎_elim
    (λ v. absurd (omega (arith, least_below-bound top counts waits n k o, small k)))
    (λ v. record { bound = least_below-bound top counts waits n; line = v.0; is_open = v.1; met = v.2 })
    (least_below-met top counts waits n)

-- ---- the lines that have it

module _ (counts waits : List ℕ) (n m : ℕ) (h : IsLeastOf counts waits n m) where
  least-test : (l : ℕ) → l < n → has_waiting waits l ≡ true
      → all_in (λ k. leb (count_of counts l) (count_of counts k)) (keep_below (has_waiting waits) n) ≡ eqb (count_of counts l) m
  least-test l u o = by_bool (eqb (count_of counts l) m)
      (λ e. all-least (count_of counts) (count_of counts l) list (low e) ∙ sym e)
      (λ e. no_pass _ (λ v. eqb-false (count_of counts l) m e (same v)) ∙ sym e)
    where
      list : List ℕ
      list = keep_below (has_waiting waits) n

      low : eqb (count_of counts l) m ≡ true → (k : ℕ) → In k list → count_of counts l ≤ count_of counts k
      low e k i =
          let q = in_keep_below (has_waiting waits) n k i in
          omega (arith, eqb-true (count_of counts l) m e, h.bound k (record { below = q.0; passes = q.1 }))

      same : all_in (λ k. leb (count_of counts l) (count_of counts k)) list ≡ true → count_of counts l ≡ m
      same v =
          let k = h.line in
          let i = keep_below_in (has_waiting waits) n k h.is_open.below h.is_open.passes in
          omega (arith, h.met, least-all (count_of counts) (count_of counts l) list v k i, h.bound l (record { below = u; passes = o }))

  pub least_lines_is : least_lines (count_of counts) (keep_below (has_waiting waits) n) ≡ keep_below (is_least counts waits m) n
  least_lines_is = keep-keep_below _ (has_waiting waits) n ∙ keep_below-same _ _ n (λ l u. by_bool (has_waiting waits l)
      (λ e. rw e (least-test l u e))
      (λ e. rw e))

  -- some line has it
  pub least-some : 0 < count_below (is_least counts waits m) n
  least-some =
      let k = h.line in
      let e : is_least counts waits m k ≡ true = rw h.is_open.passes (eq-eqb (get_or counts k 0) m h.met) in
      count_below-at (is_least counts waits m) n k h.is_open.below e
