-- A plan's dominators are in earlier fronts; so, under the constraint rule, is every feasible plan in an earlier one than every infeasible plan.
use Prim.Native.Nat.{ℕ, suc, ◌<◌}
use mathlib.Core.Path.{◌≡◌, sym, ◌∙◌}
use mathlib.Core.Bool.{Bool, true, false, true≢false}
use native.Mathlib.Omega.{arith}
use borrow.Author.Tests.{leb-true, leb-false}
use lib.Dec.{leb}
use Rattle.model.specs.Papers.Deb2002.{in_first}
use Rattle.model.specs.Row.{feasible, constrained_dominates, beats}
use Rattle.model.specs.Front.{front_of}
use Rattle.model.specs.Association.{Request, dominance}
use Rattle.list_laws.proofs.Bools.{by_bool}
use Rattle.front_laws.specs.Strict.{Strict}
use Rattle.front_laws.proofs.Rounds.{in_first-front}
use Rattle.front_laws.proofs.Order.{front-exactly, all-in_first, in_first_later, in_front_undominated}
use Rattle.front_laws.proofs.Theorems.{none_backwards, front_of-at}

-- whoever dominates a plan of the first k + 1 fronts is in one of the first k
pub dominators_first : (d : ℕ → ℕ → Bool) (n k p q : ℕ) → in_first d n (suc k) p ≡ true → q < n → d q p ≡ true → in_first d n k q ≡ true
dominators_first d n k p q e h dom =
    let f = in_first-front d n (suc k) p e in
    by_bool (in_first d n f.0 q) (in_first_later d n f.0 k q (omega (arith, f.1)))
    (λ y. absurd (true≢false (sym dom ∙ in_front_undominated d n f.0 p f.2 q h y)))

-- the front of a dominator is the smaller
pub dominator_before : (d : ℕ → ℕ → Bool) (n : ℕ) → Strict d n → (p q : ℕ) → p < n → q < n → d p q ≡ true → front_of d n p < front_of d n q
dominator_before d n s p q hp hq dom =
    let a = in_first-front d n n p (all-in_first d n s p hp) in
    let b = in_first-front d n n q (all-in_first d n s q hq) in
    let mp = (front-exactly d n a.0).every p hp a.2 in
    let mq = (front-exactly d n b.0).every q hq b.2 in
    let before : a.0 < b.0 = by_bool (leb b.0 a.0)
    (λ y. absurd (true≢false (sym dom ∙ none_backwards d n b.0 a.0 q p (leb-true b.0 a.0 y) mq mp))) (leb-false b.0 a.0) in
    omega (arith, before, front_of-at d n s a.0 p mp, front_of-at d n s b.0 q mq)

-- "feasible .. beats infeasible"
pub feasible-beats : (r : Request) (p q : ℕ) → feasible (r.plans p).constraints ≡ true → feasible (r.plans q).constraints ≡ false → dominance r p q ≡ true
unfolding beats constrained_dominates
feasible-beats r p q f g = rw (f, g)

pub feasible-before : (r : Request) → Strict (dominance r) r.count → (p q : ℕ) → p < r.count → q < r.count
    → feasible (r.plans p).constraints ≡ true → feasible (r.plans q).constraints ≡ false
    → front_of (dominance r) r.count p < front_of (dominance r) r.count q
feasible-before r s p q hp hq f g = dominator_before (dominance r) r.count s p q hp hq (feasible-beats r p q f g)
