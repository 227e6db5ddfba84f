-- The ranks: each place that a front names holds the front's number, and no place from n on changes.
use Prim.Native.Nat.{ℕ, zero, suc, ◌≤◌, ◌<◌}
use mathlib.Core.Path.{◌≡◌, refl, ap, sym, ◌∙◌}
use mathlib.Core.Bool.{Bool, true}
use mathlib.Core.List.Memᴰ
use mathlib.Core.List.{List, [], ◌∷◌, ◌++◌}
use native.Mathlib.Nat.{not-suc-le-zero}
use native.Mathlib.Omega.{arith}
use borrow.Author.Tests.{eq-eqb, eqb-true}
use lib.Dec.{eqb}
use lib.ListN.{length, get_or, set, drop, length-set}
use lib.Seq.{get_or-set_same, get_or-set_other, drop-set-lt}
use Rattle.model.specs.Front.{front}
use Rattle.model.specs.Lists.{one}
use Rattle.model.specs.Papers.Deb2002.{in_front}
use Rattle.list_laws.specs.Occ.{occ, Below}
use Rattle.list_laws.proofs.Below.{last_or, by_lt}
use Rattle.list_laws.proofs.Bools.{by_bool}
use Rattle.list_laws.proofs.Members.{occ_nil, occ_cons}
use Rattle.front_laws.specs.Ranks.{mark, ranked}
use Rattle.front_laws.proofs.Order.{one-front}
use Rattle.front_laws.proofs.Rounds.{found}

pub mark-append : (s t : List ℕ) (k : ℕ) (r : List ℕ) → mark (s ++ t) k r ≡ mark t k (mark s k r)
unfolding mark
mark-append [] t k r = refl
mark-append (x ∷ s) t k r = mark-append s t k (set r x k)

pub mark-length : (l : List ℕ) (k : ℕ) (r : List ℕ) → length (mark l k r) ≡ length r
unfolding mark
mark-length [] k r = refl
mark-length (x ∷ l) k r = mark-length l k (set r x k) ∙ length-set r x k

-- a place that the list does not name stays
mark-other : (l : List ℕ) (k : ℕ) (r : List ℕ) (q : ℕ) → occ q l ≡ 0 → get_or (mark l k r) q 0 ≡ get_or r q 0
unfolding mark
mark-other [] k r q h = refl
mark-other (x ∷ l) k r q h =
    let c = occ_cons q x l in
    mark-other l k (set r x k) q (omega arith)
    ∙ get_or-set_other r x q k 0 (λ e. omega (arith, ap one (eq-eqb x q (sym e))))

-- a place that it names holds k
mark-same : (l : List ℕ) (k : ℕ) (r : List ℕ) (q : ℕ) → 0 < occ q l → q < length r → get_or (mark l k r) q 0 ≡ k
unfolding mark
mark-same [] k r q h u = absurd (omega (arith, occ_nil q))
mark-same (x ∷ l) k r q h u = by_lt 0 (occ q l)
    (λ m. mark-same l k (set r x k) q m (omega (arith, length-set r x k)))
    (λ z. mark-other l k (set r x k) q (omega arith) ∙ by_bool (eqb x q)
    (λ v. let w = eqb-true x q v in ap (λ t. get_or (set r t k) q 0) w ∙ get_or-set_same r q k 0 u)
    (λ v. absurd (omega (arith, occ_cons q x l, ap one v))))

-- no place from n on changes
pub mark-drop : (l : List ℕ) (k : ℕ) (r : List ℕ) (n : ℕ) → Below n l → drop n (mark l k r) ≡ drop n r
unfolding mark
mark-drop [] k r n h = refl
mark-drop (x ∷ l) k r n h =
    mark-drop l k (set r x k) n (λ q m. h q (Memᴰ.tail m)) ∙ drop-set-lt n r x k (h x (Memᴰ.head refl))

pub ranked-length : (d : ℕ → ℕ → Bool) (n k : ℕ) (r : List ℕ) → length (ranked d n k r) ≡ length r
unfolding ranked
ranked-length d n zero r = refl
ranked-length d n (suc k) r = mark-length (front d n k) k (ranked d n k r) ∙ ranked-length d n k r

pub ranked-drop : (d : ℕ → ℕ → Bool) (n k : ℕ) (r : List ℕ) → drop n (ranked d n k r) ≡ drop n r
unfolding ranked
ranked-drop d n zero r = refl
ranked-drop d n (suc k) r = mark-drop (front d n k) k (ranked d n k r) n (found d n k).below ∙ ranked-drop d n k r

-- the rank of a plan is the number of its front
pub ranked-at : (d : ℕ → ℕ → Bool) (n k : ℕ) (r : List ℕ) (j q : ℕ) → n ≤ length r → q < n → j < k → in_front d n j q ≡ true
    → get_or (ranked d n k r) q 0 ≡ j
unfolding ranked
ranked-at d n zero r j q h l u e = absurd (not-suc-le-zero u)
ranked-at d n (suc k) r j q h l u e =
    let f = (found d n k).exact q l in
    last_or u
    (λ v. let here = ap (λ t. one (in_front d n t q)) (sym v) ∙ ap one e in
    mark-same (front d n k) k (ranked d n k r) q (omega arith) (omega (arith, ranked-length d n k r)) ∙ sym v)
    (λ m. by_bool (in_front d n k q)
    (λ v. absurd (omega (arith, one-front d n j k q e v)))
    (λ v. mark-other (front d n k) k (ranked d n k r) q (f ∙ ap one v) ∙ ranked-at d n k r j q h l m e))
